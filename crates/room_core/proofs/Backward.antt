-- What the theorems say, told from the latest moment back, as each act is proved to keep it.
use Rattle.std.specs.Prelude.{◌≡◌, ℕ, ◌+◌, ◌<◌, ◌≤◌, ◌==◌, ◌⊎◌, Bool, true, false, if◌then◌else◌, List, [], ◌∷◌, Option, Some, None}
use Rattle.room_core.specs.declared.acts.Act.{Act}
use Rattle.room_core.specs.declared.acts.Act.TheVariants.{Draw, Step, Leave}
use Rattle.room_core.specs.declared.words.Word.TheVariants.{Wait, Active}
use Rattle.room_core.specs.declared.words.Touch.{Touch}
use Rattle.room_core.specs.declared.words.Touch.TheVariants.{Load}
use Rattle.room_core.specs.declared.items.Item.{Item}
use Rattle.room_core.specs.declared.items.Item.TheVariants.{Opened, Entered, Left, ExitBegun, ExitEnded}
use Rattle.room_core.specs.declared.items.Opening.{Opening}
use Rattle.room_core.specs.Active.{turn_of}
use Rattle.room_core.specs.Runs.{Moment}
use Rattle.room_core.specs.Openings.{Admits}
use Rattle.room_core.specs.Trace.{onto, trace, occupant, last_room, is_closing, is_exiting, last_opening, openings, first_by}

-- whoever occupies a room occupies that of the last Opened, and no exit code has begun since
abbrev pub AllInLast : List Item → Type 0
AllInLast past =
    (c r : ℕ) → occupant c past ≡ Some r → (last_room past ≡ Some r) × (is_closing past ≡ false)

-- an Opened doesn't stand between an ExitBegun and the next ExitEnded
abbrev pub MayCome : Item → List Item → Type 0
MayCome (Opened turn r from to) past = is_exiting past ≡ false
MayCome _ past = Unit {0}

-- so it is after each of its prefixes
abbrev pub ApartBack : List Item → Type 0
ApartBack [] = Unit {0}
ApartBack (item ∷ past) = AllInLast (item ∷ past) × MayCome item past × ApartBack past

abbrev pub drew : ℕ → Act → ℕ
drew r (Draw q) = if q == r then 1 else 0
drew r Step = 0
drew r Leave = 0

-- how often room r was drawn
abbrev pub draws : ℕ → List Moment → ℕ
draws r [] = 0
draws r (m ∷ history) = drew r m.act + draws r history

abbrev pub draw_by : Act → List Moment → Option (ℕ × ℕ) → Option (ℕ × ℕ)
draw_by (Draw r) history old = Some (r, draws r history + 1)
draw_by Step history old = old
draw_by Leave history old = old

-- the room and the ticket of the caller's last draw
abbrev pub last_draw : ℕ → List Moment → Option (ℕ × ℕ)
last_draw c [] = None
last_draw c (m ∷ history) =
    if m.caller == c then draw_by m.act history (last_draw c history) else last_draw c history

-- the turn in the caller's first load of `active` after its last draw
abbrev pub first_in : ℕ → List Moment → Option ℕ
first_in c [] = None
first_in c (m ∷ history) =
    if m.caller == c then first_by m.act m.event.touch (first_in c history) else first_in c history

abbrev pub wait_by : ℕ → Touch → ℕ → ℕ → ℕ
wait_by r (Load (Wait q) value) now old = if q == r then now else old
wait_by r _ now old = old

-- how often room r was drawn before the caller's last load of its wait
abbrev pub draws_at_load : ℕ → ℕ → List Moment → ℕ
draws_at_load c r [] = 0
draws_at_load c r (m ∷ history) =
    if m.caller == c then wait_by r m.event.touch (draws r history) (draws_at_load c r history) else
    draws_at_load c r history

-- the `to` of the last Opened of room r, or 0
abbrev pub last_to : ℕ → List Item → ℕ
last_to r [] = 0
last_to r (Opened turn q from to ∷ past) = if q == r then to else last_to r past
last_to r (Entered c q ∷ past) = last_to r past
last_to r (Left c ∷ past) = last_to r past
last_to r (ExitBegun q ∷ past) = last_to r past
last_to r (ExitEnded q ∷ past) = last_to r past

-- how many left since the last Opened
abbrev pub lefts : List Item → ℕ
lefts [] = 0
lefts (Opened turn r from to ∷ past) = 0
lefts (Left c ∷ past) = lefts past + 1
lefts (Entered c r ∷ past) = lefts past
lefts (ExitBegun r ∷ past) = lefts past
lefts (ExitEnded r ∷ past) = lefts past

abbrev pub ends_in_left : List Item → Bool
ends_in_left (Left c ∷ past) = true
ends_in_left _ = false

-- the exit code of the last Opened has begun and ended, if there was one
abbrev pub IsShut : List Item → Type 0
IsShut past = (openings past ≡ 0) ⊎ ((is_closing past ≡ true) × (is_exiting past ≡ false))

-- what an item of the caller says about the moments and the items before it
abbrev pub Lawful : ℕ → List Moment → Item → List Item → Type 0
Lawful c history (Opened turn r from to) past =
    (turn ≡ openings past + 1) × (from ≡ last_to r past) × (from < to) ×
    (to ≡ draws_at_load c r history) × IsShut past
Lawful c history (Entered d r) past =
    (d ≡ c) × (ticket : ℕ) × (last_draw c history ≡ Some (r, ticket)) × (o : Opening) ×
    (last_opening past ≡ Some o) × (o.room ≡ r) × (o.from < ticket) × (ticket ≤ o.to) ×
    (is_closing past ≡ false)
Lawful c history (Left d) past = d ≡ c
Lawful c history (ExitBegun r) past =
    (o : Opening) × (last_opening past ≡ Some o) × (o.room ≡ r) × (is_closing past ≡ false) ×
    (o.from + lefts past ≡ o.to) × (ends_in_left past ≡ true)
Lawful c history (ExitEnded r) past =
    (o : Opening) × (last_opening past ≡ Some o) × (o.room ≡ r) × (is_closing past ≡ true) ×
    (is_exiting past ≡ true)

abbrev pub LawfulAt : ℕ → List Moment → Option Item → List Item → Type 0
LawfulAt c history None past = Unit {0}
LawfulAt c history (Some item) past = Lawful c history item past

-- a departure that is not the last of its opening comes alone; else it is followed by the begin of the exit code
abbrev pub StaysOpen : Option Item → List Item → Type 0
StaysOpen (Some (Left c)) past =
    (o : Opening) → last_opening past ≡ Some o → o.from + lefts past + 1 ≡ o.to → ⊥
StaysOpen _ past = Unit {0}

-- the two items of one event
abbrev pub Pairs : Option Item → Option Item → List Item → Type 0
Pairs one None past = StaysOpen one past
Pairs (Some (Opened turn r from to)) (Some (Entered c q)) past = Unit {0}
Pairs (Some (Left c)) (Some (ExitBegun q)) past = Unit {0}
Pairs _ _ past = ⊥

abbrev pub LawfulBack : List Moment → Type 0
LawfulBack [] = Unit {0}
LawfulBack (m ∷ history) =
    LawfulAt m.caller history m.event.one (trace history) × LawfulAt m.caller history m.event.two
    (onto m.event.one (trace history)) × LawfulBack history × Pairs m.event.one m.event.two
    (trace history)

-- an Opened comes within a round of the first look of each caller that it admits
abbrev pub Prompt : ℕ → List Moment → Option Item → Type 0
Prompt rooms history (Some (Opened turn r from to)) =
    (c ticket first : ℕ) → last_draw c history ≡ Some (r, ticket) → from < ticket → ticket ≤ to
    → first_in c history ≡ Some first → (first ≤ turn) × (turn ≤ first + rooms)
Prompt rooms history _ = Unit {0}

-- a caller that loads the active word after it was let in sees the turn of the opening that let it in, which is the last one
abbrev pub SeesItsTurn : ℕ → List Moment → Touch → Type 0
SeesItsTurn c history (Load Active word) =
    (r ticket : ℕ) → last_draw c history ≡ Some (r, ticket) → ticket ≤ last_to r (trace history)
    → (o : Opening) × (last_opening (trace history) ≡ Some o) × Admits o r ticket ×
    (turn_of word ≡ o.turn)
SeesItsTurn c history _ = Unit {0}

-- a caller draws when its last ticket was let in
abbrev pub UsesUp : ℕ → List Moment → Act → Type 0
UsesUp c history (Draw q) =
    (r ticket : ℕ) → last_draw c history ≡ Some (r, ticket) → ticket ≤ last_to r (trace history)
UsesUp c history _ = Unit {0}

-- who loads the active word makes a step, and opens no room
abbrev pub OnlyLooks : Act → Option Item → Touch → Type 0
OnlyLooks act (Some (Opened turn r from to)) (Load Active word) = ⊥
OnlyLooks act one (Load Active word) = act ≡ Step
OnlyLooks act one _ = Unit {0}

abbrev pub PromptBack : ℕ → List Moment → Type 0
PromptBack rooms [] = Unit {0}
PromptBack rooms (m ∷ history) =
    Prompt rooms history m.event.one × SeesItsTurn m.caller history m.event.touch × UsesUp m.caller
    history m.act × OnlyLooks m.act m.event.one m.event.touch × PromptBack rooms history
