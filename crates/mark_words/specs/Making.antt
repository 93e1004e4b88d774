-- What a set-up makes.
use Rattle.std.specs.Prelude.{◌≡◌, ℕ, List, length}
use Rattle.atomic_table.specs.Seated.{TableId}
use Rattle.mark_words.specs.Rule.{IsAt}
use Rattle.mark_words.specs.Shows.{Claimant, newcomer}

-- so many seats, in the order of their numbers, that claimed nothing
pub record AreSeats (site : TableId) (made : ℕ) (seats : List Claimant) : Type 0 where
  pub long : length seats ≡ made
  pub each : (i : ℕ) (c : Claimant) → IsAt seats i c → c ≡ newcomer site i
