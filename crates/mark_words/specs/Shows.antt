-- What contracts see of claims and of their seats.
use Rattle.std.specs.Prelude.{ℕ, Bool, if◌then◌else◌, List, [], ◌∷◌}
use Rattle.atomic_table.specs.Seated.{TableId}

-- Claims: which set-up it is, and how many bits and seats it has
pub record Site : Type 0 where
  pub site : TableId
  pub bits : ℕ
  pub seats : ℕ

-- A seat: its set-up, its number there, the bits that it won and found set, newest first, and the word
-- that its last claim found
pub record Claimant : Type 0 where
  pub site : TableId
  pub number : ℕ
  pub won : List ℕ
  pub found : List ℕ
  pub old : ℕ

-- a seat that claimed nothing
abbrev pub newcomer : TableId → ℕ → Claimant
newcomer site number = record { site = site; number = number; won = []; found = []; old = 0 }

-- a seat after a claim of the bit, which found this word and answered so
abbrev pub claimed : ℕ → ℕ → Bool → Claimant → Claimant
claimed b word answer c = record c {
  won = if answer then b ∷ c.won else c.won;
  found = if answer then c.found else b ∷ c.found;
  old = word;
}
