-- Traces and runs that the theorems refuse, one for each.
use Rattle.std.specs.Prelude.{ℕ, List, [], ◌∷◌, Option, Some, None}
use Rattle.room_core.specs.declared.acts.Act.{Act}
use Rattle.room_core.specs.declared.acts.Act.TheVariants.{Draw, Step}
use Rattle.room_core.specs.declared.words.Touch.{Touch}
use Rattle.room_core.specs.declared.words.Touch.TheVariants.{Add, Load, Store}
use Rattle.room_core.specs.declared.words.Word.TheVariants.{Wait, Grant, Active}
use Rattle.room_core.specs.declared.items.Item.{Item}
use Rattle.room_core.specs.declared.items.Item.TheVariants.{Opened, Entered, Left, ExitBegun, ExitEnded}
use Rattle.room_core.specs.Runs.{Moment}

-- caller 1 enters room 1 while caller 0 is inside room 0
abbrev pub two_rooms : List Item
two_rooms = Opened 1 0 0 1 ∷ Entered 0 0 ∷ Opened 2 1 0 1 ∷ Entered 1 1 ∷ []

-- the exit code begins when the first of two callers leaves
abbrev pub early_exit : List Item
early_exit = Opened 1 0 0 2 ∷ Entered 0 0 ∷ Entered 1 0 ∷ Left 0 ∷ ExitBegun 0 ∷ []

-- caller c draws a ticket of the room, after this many
abbrev pub drew : ℕ → ℕ → ℕ → Moment
drew c room old = record {
  caller = c;
  act = Draw room;
  event = record { touch = Add (Wait room) old; one = None; two = None };
}

-- caller c makes this step, and the trace gains this
abbrev pub stepped : ℕ → Touch → Option Item → Moment
stepped c touch item = record {
  caller = c;
  act = Step;
  event = record { touch = touch; one = item; two = None };
}

-- caller 0 enters room 0, which has not opened
abbrev pub no_opening : List Moment
no_opening = drew 0 0 0 ∷ stepped 0 (Load Active 9) (Some (Entered 0 0)) ∷ []

-- the leaver of room 0, of two, looks at its own room first
abbrev pub own_room_first : List Moment
own_room_first = stepped 0 (Load (Wait 0) 1) (Some (ExitEnded 0)) ∷ []

-- of one room: caller 0 sees turn 5, and is let in in turn 7
abbrev pub passed_by : List Moment
passed_by =
    drew 0 0 0 ∷ stepped 0 (Load Active 40) None ∷ stepped 1 (Store (Grant 0) 1) (Some (Opened 7 0 0 1)) ∷ []
