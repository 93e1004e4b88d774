-- What calls put into a list of a bay, and what they took out of it.
use Rattle.std.specs.Prelude.{ℕ, List, [], ◌∷◌}
use Rattle.std.specs.List.{flat_map}
use Rattle.bay_core.specs.declared.calls.Op.{Op}
use Rattle.bay_core.specs.declared.calls.Op.TheVariants.{Push, Pop, Enq, Deq}
use Rattle.bay_core.specs.declared.calls.Reply.{Reply}
use Rattle.bay_core.specs.declared.calls.Reply.TheVariants.{Done, Item}
use Rattle.bay_core.specs.declared.calls.Entry.{Entry}

-- the item that a call put, where it was of the first operation, Push or Enq, and stored its item
abbrev pub put_by : Op → Op → ℕ → Reply → List ℕ
put_by Push Push x Done = x ∷ []
put_by Enq Enq x Done = x ∷ []
put_by _ _ x _ = []

-- the item that a call took, where it was of the first operation, Pop or Deq, and gave an item
abbrev pub took_by : Op → Op → Reply → List ℕ
took_by Pop Pop (Item x) = x ∷ []
took_by Deq Deq (Item x) = x ∷ []
took_by _ _ _ = []

-- the item that the call of an entry put, by this operation
abbrev pub put_of : Op → Entry → List ℕ
put_of op e = put_by op e.op e.arg e.reply

-- the item that it took
abbrev pub took_of : Op → Entry → List ℕ
took_of op e = took_by op e.op e.reply

-- the items that the calls of these entries put, by this operation
abbrev pub all_put : Op → List Entry → List ℕ
all_put op es = flat_map (put_of op) es

-- the items that they took
abbrev pub all_taken : Op → List Entry → List ℕ
all_taken op es = flat_map (took_of op) es
