-- What a stay changes.
use Rattle.std.specs.Prelude.{◌≡◌, ℕ, ◌+◌, ◌<◌, Bool, true, false}
use Rattle.room_rule.specs.Use.{Own}
use Rattle.room_gate.specs.Shows.{Caller, Insider}
use Rattle.stay_tally.specs.declared.uses.Stays.{Stays}
use Rattle.stay_tally.specs.Tally.{counts}

-- the step: what the caller had before, the word's numbers, and what it has after
abbrev pub counts_stay : ℕ → ℕ → Own (Unit {0}) Stays → ℕ → ℕ → Own (Unit {0}) Stays → Type 0
counts_stay room turn before old new after = after.user ≡ counts room turn before.user

-- an insider counted its stay, and nothing else is changed
abbrev pub HasCounted_inside : Insider (Unit {0}) Stays → Insider (Unit {0}) Stays → Type 0
HasCounted_inside before after = after ≡ record before {
  caller = record before.caller {
    user = counts before.opening.room before.opening.turn before.caller.user;
  };
  held = after.held;
}

-- a caller was in the room in some turn, and counted that stay
abbrev pub HasCounted : ℕ → Caller Stays → Caller Stays → Type 0
HasCounted room before after = (turn : ℕ) × (before.user.last < turn) × (after ≡ record before {
  draws = before.draws + 1;
  user = counts room turn before.user;
  seen = after.seen;
  first = after.first;
  loads = after.loads;
  done = after.done;
})

-- it counted one exactly where it had a draw left, and is else as it was
abbrev pub Answers : ℕ → Caller Stays → Caller Stays → Bool → Type 0
Answers room before after true = (before.draws < before.limit) × HasCounted room before after
Answers room before after false = (before.draws ≡ before.limit) × (after ≡ before)
