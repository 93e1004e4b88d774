-- How often numbers stand in lists.
use Rattle.std.specs.Prelude.{ℕ, List, eqb}
use Rattle.std.specs.List.{count_by}

-- how often a number stands in a list
abbrev pub times : ℕ → List ℕ → ℕ
times n xs = count_by (λ x. eqb x n) xs
