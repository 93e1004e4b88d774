-- The line at which a text first breaks its rules.
use Rattle.std.specs.Prelude.{ℕ, ◌+◌, ◌-◌, ◌<◌, ◌≤◌, List, ◌++◌, length, take}

-- these lines begin a text that keeps the rules
abbrev pub Begins : (List (List ℕ) → Type 0) → List (List ℕ) → Type 0
Begins Keeps lines = (more : List (List ℕ)) × Keeps (lines ++ more)

-- line k, counted from 1, is the first that breaks the rules: the lines before it begin a text
-- that keeps them, and with it they begin none, or it is missing and they are no such text yet
pub record BreaksAt (Keeps : List (List ℕ) → Type 0) (lines : List (List ℕ)) (k : ℕ) : Type 0 where
  pub counted : 0 < k
  pub near : k ≤ length lines + 1
  pub before : Begins Keeps (take (k - 1) lines)
  pub wrong : k ≤ length lines → ¬ Begins Keeps (take k lines)
  pub missing : length lines < k → ¬ Keeps lines
