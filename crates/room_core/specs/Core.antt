-- What the calls of the core answer.
use Rattle.std.specs.Prelude.{◌≡◌, ℕ, ◌<◌, ◌≤◌, ◌^◌, Bool, true, false, List, length, slice_index, IfSome, Result, Ok, Err}
use Rattle.room_core.specs.declared.acts.Act.{Act}
use Rattle.room_core.specs.declared.items.Event.{Event}
use Rattle.room_core.specs.declared.phases.Phase.{Phase}
use Rattle.room_core.specs.declared.phases.Phase.TheVariants.{Out, Looking, Glancing, Seizing, Counting, Admitting, Turning, Inside, Exiting, Peering, Scanning, Passing}
use Rattle.room_core.specs.declared.acts.Refused.{Refused}
use Rattle.room_core.specs.Machine.{State, Row, after, phase_of}
use Rattle.room_core.specs.Runs.{Moment, run, start}

-- the event of an act, or its refusal
abbrev pub event_of : Result Row Refused → Result Event Refused
event_of (Ok row) = Ok row.1
event_of (Err why) = Err why

-- the state that an act leaves; one that is refused leaves it as it was
abbrev pub state_after : State → ℕ → Act → Result Row Refused → State
state_after s c act (Ok row) = after s c act row
state_after s c act (Err why) = s

-- a caller that has not seized the active word
abbrev pub is_trying : Phase → Bool
is_trying (Looking room ticket first) = true
is_trying (Glancing room ticket first) = true
is_trying (Seizing room ticket first idle) = true
is_trying _ = false

-- a caller that left last, and has not passed on yet
abbrev pub is_leaving : Phase → Bool
is_leaving (Exiting room turn) = true
is_leaving (Peering room turn k w) = true
is_leaving (Scanning room turn k) = true
is_leaving (Passing turn next) = true
is_leaving _ = false

-- the rooms of a phase exist, and its numbers are no larger than a counter may be
abbrev pub IsNamed : ℕ → Phase → Type 0
IsNamed rooms Out = Unit {0}
IsNamed rooms (Looking room ticket first) = room < rooms
IsNamed rooms (Glancing room ticket first) = room < rooms
IsNamed rooms (Seizing room ticket first idle) = (room < rooms) × (idle < 2 ^ 60)
IsNamed rooms (Counting room ticket first turn) = room < rooms
IsNamed rooms (Admitting room ticket first turn to) = room < rooms
IsNamed rooms (Turning room ticket first to) = room < rooms
IsNamed rooms (Inside room ticket first turn to) = room < rooms
IsNamed rooms (Exiting room turn) = room < rooms
IsNamed rooms (Peering room turn k w) = (room < rooms) × (k < rooms)
IsNamed rooms (Scanning room turn k) = (room < rooms) × (k < rooms)
IsNamed rooms (Passing turn next) = (turn < 2 ^ 57) × IfSome next (λ k. k < rooms)

-- the lists of a state are as long as its rooms and callers ask, and its phases name rooms that there are
pub record IsSized (s : State) : Type 0 where
  pub some : 0 < length s.words.wait
  pub few : length s.words.wait ≤ 7
  pub grants : length s.words.grant ≡ length s.words.wait
  pub dones : length s.words.done ≡ length s.words.wait
  pub callers : length s.phases ≤ 64
  pub draws : length s.draws ≡ length s.phases
  pub named : (c : ℕ) → IsNamed (length s.words.wait) (phase_of s c)

-- no counter is near its end
pub record IsSmall (s : State) : Type 0 where
  pub active : s.words.active < 2 ^ 60
  pub wait : (r : ℕ) → slice_index s.words.wait r < 2 ^ 58
  pub done : (r : ℕ) → slice_index s.words.done r < 2 ^ 58
  pub drawn : (c : ℕ) → slice_index s.draws c ≤ 2 ^ 48

-- a run leads to the state
pub record IsReached (s : State) : Type 0 where
  pub rooms : ℕ
  pub callers : ℕ
  pub acts : List (ℕ × Act)
  pub history : List Moment
  pub some : 0 < rooms
  pub few : rooms ≤ 7
  pub crowd : callers ≤ 64
  pub leads : run acts (start rooms callers) ≡ record { state = s; history = history }
