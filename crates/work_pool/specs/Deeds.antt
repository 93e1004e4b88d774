-- Runs of deeds: lists of them, in their order.
use Rattle.std.specs.Prelude.{ℕ, List, [], ◌∷◌}
use Rattle.std.specs.List.{flat_map}
use Rattle.bay_core.specs.declared.calls.Entry.{Entry}
use Rattle.work_pool.specs.declared.deeds.Deed.{Deed}
use Rattle.work_pool.specs.declared.deeds.Deed.TheVariants.{Stored, Refused, Withheld, Missed, Took, Handled}

-- the entry of a deed's call, if it made one
abbrev pub call_of : Deed → List Entry
call_of (Stored item e) = e ∷ []
call_of (Refused item e) = e ∷ []
call_of (Withheld item) = []
call_of (Missed e) = e ∷ []
call_of (Took item e) = e ∷ []
call_of (Handled item) = []

-- the entry of a try that found nothing
abbrev pub miss_of : Deed → List Entry
miss_of (Missed e) = e ∷ []
miss_of _ = []

-- the entry of a try to take
abbrev pub try_of : Deed → List Entry
try_of (Missed e) = e ∷ []
try_of (Took item e) = e ∷ []
try_of _ = []

-- the item that a deed offered
abbrev pub offer_of : Deed → List ℕ
offer_of (Stored item e) = item ∷ []
offer_of (Refused item e) = item ∷ []
offer_of (Withheld item) = item ∷ []
offer_of _ = []

-- the item that was offered and stored
abbrev pub store_of : Deed → List ℕ
store_of (Stored item e) = item ∷ []
store_of _ = []

-- the item that was offered and kept
abbrev pub keep_of : Deed → List ℕ
keep_of (Refused item e) = item ∷ []
keep_of (Withheld item) = item ∷ []
keep_of _ = []

-- the item that a deed came to, by keeping or taking it
abbrev pub gain_of : Deed → List ℕ
gain_of (Refused item e) = item ∷ []
gain_of (Withheld item) = item ∷ []
gain_of (Took item e) = item ∷ []
gain_of _ = []

-- the item that a deed handled
abbrev pub handle_of : Deed → List ℕ
handle_of (Handled item) = item ∷ []
handle_of _ = []

-- the entries of the calls of a run
abbrev pub calls : List Deed → List Entry
calls run = flat_map call_of run

-- the entries of its tries that found nothing
abbrev pub missed : List Deed → List Entry
missed run = flat_map miss_of run

-- the entries of all its tries to take
abbrev pub tried : List Deed → List Entry
tried run = flat_map try_of run

-- the items that were offered in a run
abbrev pub offered : List Deed → List ℕ
offered run = flat_map offer_of run

-- those of them that were stored
abbrev pub stored : List Deed → List ℕ
stored run = flat_map store_of run

-- those of them that were kept
abbrev pub put_by : List Deed → List ℕ
put_by run = flat_map keep_of run

-- the items that were kept or taken in a run
abbrev pub gained : List Deed → List ℕ
gained run = flat_map gain_of run

-- the items that were handled in a run
abbrev pub handled : List Deed → List ℕ
handled run = flat_map handle_of run
