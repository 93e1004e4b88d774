-- The openings that a caller has seen, and the one by which it is inside.
use Rattle.std.specs.Prelude.{◌≡◌, ℕ, ◌+◌, ◌-◌, ◌^◌, ◌<◌, ◌≤◌, nat_lt, if◌then◌else◌, List, [], ◌∷◌, ◌++◌, length}
use Rattle.room_core.specs.declared.items.Opening.{Opening}
use Rattle.room_core.specs.Runs.{World}
use Rattle.room_core.specs.Trace.{trace}
use Rattle.room_core.specs.Trace.{all_opened}
use Rattle.room_rule.specs.Use.{IsAt}

-- the one list of openings, the earliest first
abbrev pub world_openings : World → List Opening
world_openings world = all_opened (trace world.history)

-- the part is the beginning of the whole
abbrev pub StartsWith : {A : Type 0} → List A → List A → Type 0
StartsWith {A} whole part = (rest : List A) × (whole ≡ part ++ rest)

-- each member of the part is one of the whole
abbrev pub IsAmong : {A : Type 0} → List A → List A → Type 0
IsAmong {A} whole part = (i : ℕ) (a : A) → IsAt part i a → (j : ℕ) × IsAt whole j a

-- the longer of two lists of openings
abbrev pub longer : List Opening → List Opening → List Opening
longer a b = if nat_lt (length a) (length b) then b else a

-- what stands for an opening where there is none yet
abbrev pub no_opening : Opening
no_opening = record { turn = 0; room = 0; from = 0; to = 0 }

-- the last of the list, or o
abbrev pub last_of : Opening → List Opening → Opening
last_of o [] = o
last_of o (x ∷ xs) = last_of x xs

-- the latest of the openings
abbrev pub latest : List Opening → Opening
latest all = last_of no_opening all

-- the opening admits this ticket of the room, if none before did
abbrev pub Covers : Opening → ℕ → ℕ → Type 0
Covers o room ticket = (o.room ≡ room) × (ticket ≤ o.to)

-- one of the openings does
abbrev pub IsCovered : List Opening → ℕ → ℕ → Type 0
IsCovered all room ticket = (i : ℕ) × ((o : Opening) × IsAt all i o × Covers o room ticket)

-- Who has this ticket, and first looked in this turn, is inside by the opening o.
-- Of the openings that it has seen o is the latest, and the only one of its turn.
pub record IsAdmitted (rooms ticket first : ℕ) (seen : List Opening) (o : Opening) : Type 0 where
  pub own : IsAt seen (o.turn - 1) o
  pub latest : length seen ≡ o.turn
  pub only : (i : ℕ) (p : Opening) → IsAt seen i p → p.turn ≡ o.turn → p ≡ o
  pub above : o.from < ticket
  pub within : ticket ≤ o.to
  pub looked : first ≤ o.turn
  pub prompt : o.turn ≤ first + rooms
  pub small : o.turn ≤ 2 ^ 54
