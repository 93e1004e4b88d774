-- How many of a set stand below a place.
use Rattle.std.specs.Prelude.{ℕ, Bool, List, take, count_by}

-- how many of the first so many are true
abbrev pub rank : List Bool → ℕ → ℕ
rank set place = count_by (λ b. b) (take place set)
