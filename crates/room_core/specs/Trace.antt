-- A trace, told from its latest item back: what it says of who is inside, and of its last opening.
use Rattle.std.specs.Prelude.{ℕ, ◌+◌, ◌==◌, Bool, true, false, if◌then◌else◌, List, [], ◌∷◌, ◌++◌, Option, Some, None}
use Rattle.room_core.specs.declared.acts.Act.{Act}
use Rattle.room_core.specs.declared.acts.Act.TheVariants.{Draw, Step, Leave}
use Rattle.room_core.specs.declared.words.Touch.{Touch}
use Rattle.room_core.specs.declared.words.Touch.TheVariants.{Load}
use Rattle.room_core.specs.declared.words.Word.TheVariants.{Active}
use Rattle.room_core.specs.declared.items.Item.{Item}
use Rattle.room_core.specs.declared.items.Item.TheVariants.{Opened, Entered, Left, ExitBegun, ExitEnded}
use Rattle.room_core.specs.declared.items.Opening.{Opening}
use Rattle.room_core.specs.Active.{seen}
use Rattle.room_core.specs.Runs.{Moment}

-- the past, and an item after it if there is one
abbrev pub onto : Option Item → List Item → List Item
onto None past = past
onto (Some item) past = item ∷ past

-- the items of these moments, the latest first
abbrev pub trace : List Moment → List Item
trace [] = []
trace (m ∷ history) = onto m.event.two (onto m.event.one (trace history))

-- the room that the caller occupies: that of the last of its Entered and Left items, if it entered
abbrev pub occupant : ℕ → List Item → Option ℕ
occupant c [] = None
occupant c (Entered d r ∷ past) = if d == c then Some r else occupant c past
occupant c (Left d ∷ past) = if d == c then None else occupant c past
occupant c (Opened turn r from to ∷ past) = occupant c past
occupant c (ExitBegun r ∷ past) = occupant c past
occupant c (ExitEnded r ∷ past) = occupant c past

-- the room of the last Opened
abbrev pub last_room : List Item → Option ℕ
last_room [] = None
last_room (Opened turn r from to ∷ past) = Some r
last_room (Entered d r ∷ past) = last_room past
last_room (Left d ∷ past) = last_room past
last_room (ExitBegun r ∷ past) = last_room past
last_room (ExitEnded r ∷ past) = last_room past

-- an ExitBegun with no Opened after it
abbrev pub is_closing : List Item → Bool
is_closing [] = false
is_closing (Opened turn r from to ∷ past) = false
is_closing (ExitBegun r ∷ past) = true
is_closing (Entered d r ∷ past) = is_closing past
is_closing (Left d ∷ past) = is_closing past
is_closing (ExitEnded r ∷ past) = is_closing past

-- an ExitBegun with no ExitEnded after it
abbrev pub is_exiting : List Item → Bool
is_exiting [] = false
is_exiting (ExitBegun r ∷ past) = true
is_exiting (ExitEnded r ∷ past) = false
is_exiting (Opened turn r from to ∷ past) = is_exiting past
is_exiting (Entered d r ∷ past) = is_exiting past
is_exiting (Left d ∷ past) = is_exiting past

-- the last opening, if there is one
abbrev pub last_opening : List Item → Option Opening
last_opening [] = None
last_opening (Opened turn r from to ∷ past) =
    Some (record { turn = turn; room = r; from = from; to = to })
last_opening (Entered c r ∷ past) = last_opening past
last_opening (Left c ∷ past) = last_opening past
last_opening (ExitBegun r ∷ past) = last_opening past
last_opening (ExitEnded r ∷ past) = last_opening past

-- the openings in their order
abbrev pub all_opened : List Item → List Opening
all_opened [] = []
all_opened (Opened turn r from to ∷ past) =
    all_opened past ++ record { turn = turn; room = r; from = from; to = to } ∷ []
all_opened (Entered c r ∷ past) = all_opened past
all_opened (Left c ∷ past) = all_opened past
all_opened (ExitBegun r ∷ past) = all_opened past
all_opened (ExitEnded r ∷ past) = all_opened past

-- how many openings
abbrev pub openings : List Item → ℕ
openings [] = 0
openings (Opened turn r from to ∷ past) = openings past + 1
openings (Entered c r ∷ past) = openings past
openings (Left c ∷ past) = openings past
openings (ExitBegun r ∷ past) = openings past
openings (ExitEnded r ∷ past) = openings past

-- the openings before the draw, if the act is one
abbrev pub since_by : Act → List Moment → ℕ → ℕ
since_by (Draw r) history old = openings (trace history)
since_by Step history old = old
since_by Leave history old = old

-- the openings before the caller's last draw
abbrev pub since : ℕ → List Moment → ℕ
since c [] = 0
since c (m ∷ history) =
    if m.caller == c then since_by m.act history (since c history) else since c history

-- the turn first seen, after a step that may load the active word
abbrev pub first_load : Touch → Option ℕ → Option ℕ
first_load (Load Active word) old = seen old word
first_load _ old = old

-- the turn first seen, after an act: a draw forgets it
abbrev pub first_by : Act → Touch → Option ℕ → Option ℕ
first_by (Draw r) touch old = None
first_by Step touch old = first_load touch old
first_by Leave touch old = old
