-- The text of a schedule.
use Rattle.std.specs.Prelude.{◌≡◌, ℕ, ◌≤◌, ◌<◌, ◌^◌, List, ◌∷◌, ◌++◌, map, All, codes, decimal}
use Rattle.room_core.specs.declared.acts.Act.{Act}
use Rattle.room_core.specs.declared.acts.Act.TheVariants.{Draw, Step, Leave}
use Rattle.room_script.specs.declared.schedules.Schedule.{Schedule}

-- what a schedule says: the numbers of rooms and callers, and the acts, each with its caller
pub record Plan : Type 0 where
  pub rooms : ℕ
  pub callers : ℕ
  pub acts : List (ℕ × Act)

-- what a schedule in memory says
abbrev pub plan_of : Schedule → Plan
plan_of s = record { rooms = s.rooms; callers = s.callers; acts = s.acts.items }

-- the line of the number of rooms
abbrev pub rooms_line : ℕ → List ℕ
rooms_line rooms = codes "rooms " ++ decimal rooms

-- the line of the number of callers
abbrev pub callers_line : ℕ → List ℕ
callers_line callers = codes "callers " ++ decimal callers

-- the line of an act, with its caller first
abbrev pub act_line : ℕ × Act → List ℕ
act_line (caller, Draw room) = codes "draw " ++ (decimal caller ++ (codes " " ++ decimal room))
act_line (caller, Step) = codes "step " ++ decimal caller
act_line (caller, Leave) = codes "leave " ++ decimal caller

-- the lines of a schedule
abbrev pub plan_lines : Plan → List (List ℕ)
plan_lines p =
    codes "schedule 1" ∷ rooms_line p.rooms ∷ callers_line p.callers ∷ map act_line p.acts

-- from 1 to 7 rooms
abbrev pub IsRooms : ℕ → Type 0
IsRooms rooms = (1 ≤ rooms) × (rooms ≤ 7)

-- from 1 to 64 callers
abbrev pub IsCallers : ℕ → Type 0
IsCallers callers = (1 ≤ callers) × (callers ≤ 64)

-- the numbers of an act fit 64 bits
abbrev pub IsAct : ℕ × Act → Type 0
IsAct (caller, Draw room) = (caller < 2 ^ 64) × (room < 2 ^ 64)
IsAct (caller, Step) = caller < 2 ^ 64
IsAct (caller, Leave) = caller < 2 ^ 64

-- the lines are those of this plan, which is within the limits
pub record Spells (lines : List (List ℕ)) (p : Plan) : Type 0 where
  pub rooms : IsRooms p.rooms
  pub callers : IsCallers p.callers
  pub acts : All IsAct p.acts
  pub spelled : lines ≡ plan_lines p

-- the lines are those of some schedule
abbrev pub IsSchedule : List (List ℕ) → Type 0
IsSchedule lines = (p : Plan) × Spells lines p
