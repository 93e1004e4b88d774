-- When the core refuses an act.
use Rattle.std.specs.Prelude.{◌≡◌, ℕ, ◌<◌, ◌≤◌, ◌^◌, Bool, true, false, ◌||◌, length, slice_index}
use Rattle.room_core.specs.declared.acts.Act.{Act}
use Rattle.room_core.specs.declared.acts.Act.TheVariants.{Draw, Step, Leave}
use Rattle.room_core.specs.declared.acts.Refused.{Refused}
use Rattle.room_core.specs.declared.acts.Refused.TheVariants.{NoCaller, NoRoom, NotFree, NotIn, Stuck, Spent}
use Rattle.room_core.specs.declared.phases.Phase.{Phase}
use Rattle.room_core.specs.declared.phases.Phase.TheVariants.{Out, Inside}
use Rattle.room_core.specs.Machine.{State, phase_of}

-- the caller holds no ticket
abbrev pub is_out : Phase → Bool
is_out Out = true
is_out _ = false

-- the caller is inside a room
abbrev pub is_inside : Phase → Bool
is_inside (Inside room ticket first turn to) = true
is_inside _ = false

-- a caller that is out or inside has no step
abbrev pub is_resting : Phase → Bool
is_resting p = is_out p || is_inside p

-- there is such a caller
abbrev pub IsCaller : State → ℕ → Type 0
IsCaller s c = c < length s.phases

-- the act draws a ticket of a room that there is
abbrev pub DrawsRoom : State → Act → Type 0
DrawsRoom s (Draw room) = room < length s.words.wait
DrawsRoom s Step = ⊥
DrawsRoom s Leave = ⊥

-- the act draws a ticket of a room that there is not
abbrev pub DrawsNoRoom : State → Act → Type 0
DrawsNoRoom s (Draw room) = length s.words.wait ≤ room
DrawsNoRoom s Step = ⊥
DrawsNoRoom s Leave = ⊥

-- exactly where an act of caller c is refused, and why
abbrev pub Refuses : State → ℕ → Act → Refused → Type 0
Refuses s c act NoCaller = length s.phases ≤ c
Refuses s c act NoRoom = IsCaller s c × DrawsNoRoom s act
Refuses s c act NotFree = IsCaller s c × DrawsRoom s act × (is_out (phase_of s c) ≡ false)
Refuses s c act NotIn = IsCaller s c × (act ≡ Leave) × (is_inside (phase_of s c) ≡ false)
Refuses s c act Stuck = IsCaller s c × (act ≡ Step) × (is_resting (phase_of s c) ≡ true)
Refuses s c act Spent =
    IsCaller s c × DrawsRoom s act × (is_out (phase_of s c) ≡ true)
    × (slice_index s.draws c ≡ 2 ^ 48)
