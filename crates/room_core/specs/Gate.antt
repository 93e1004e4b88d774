-- The gate of a trace: shut after a turn, held by the insiders of a room, or keyed by one holder.
use Rattle.std.specs.Prelude.{ℕ, ◌==◌, Bool, true, false, if◌then◌else◌, List, [], ◌∷◌, Option, Some, None}
use Rattle.room_core.specs.declared.items.Item.{Item}
use Rattle.room_core.specs.declared.items.Item.TheVariants.{Opened, Entered, Left, ExitBegun, ExitEnded}
use Rattle.room_core.specs.declared.items.Opening.{Opening}
use Rattle.room_core.specs.Trace.{occupant, is_closing, is_exiting}
use Rattle.room_core.specs.Trace.{last_opening}

-- shut after this turn; held in this room and turn, by these insiders; or keyed in this room and turn, by this caller
pub data Gate : Type 0 where
  Shut : ℕ → Gate
  Held : ℕ → ℕ → (ℕ → Bool) → Gate
  Keyed : ℕ → ℕ → ℕ → Gate

-- no caller is among them
abbrev pub nobody : ℕ → Bool
nobody c = false

-- these callers, and c
abbrev pub joined : (ℕ → Bool) → ℕ → ℕ → Bool
joined ins c d = if c == d then true else ins d

-- these callers, but for c
abbrev pub without : (ℕ → Bool) → ℕ → ℕ → Bool
without ins c d = if c == d then false else ins d

-- there is a room
abbrev pub is_there : Option ℕ → Bool
is_there None = false
is_there (Some r) = true

-- who is inside
abbrev pub inside : List Item → ℕ → Bool
inside past c = is_there (occupant c past)

-- who left last
abbrev pub leaver : List Item → ℕ
leaver [] = 0
leaver (Left c ∷ past) = c
leaver (Opened turn r from to ∷ past) = leaver past
leaver (Entered c r ∷ past) = leaver past
leaver (ExitBegun r ∷ past) = leaver past
leaver (ExitEnded r ∷ past) = leaver past

-- the gate by the last opening, whether exit code began and goes on, who is inside, and who left last
abbrev pub gate_by : Option Opening → Bool → Bool → (ℕ → Bool) → ℕ → Gate
gate_by None closing exiting ins who = Shut 0
gate_by (Some o) false exiting ins who = Held o.room o.turn ins
gate_by (Some o) true true ins who = Keyed o.room o.turn who
gate_by (Some o) true false ins who = Shut o.turn

-- the gate after a trace
abbrev pub gate : List Item → Gate
gate past =
    gate_by (last_opening past) (is_closing past) (is_exiting past) (inside past) (leaver past)
