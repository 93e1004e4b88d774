-- A set after a run of numbers is put into it.
use Rattle.std.specs.Prelude.{ℕ, ◌-◌, List, ◌++◌, take, drop, replicate, Bool, true}

-- the numbers from `from` up to, and not with, `end` are in it, and each other one is where it was
abbrev pub with_run : List Bool → ℕ → ℕ → List Bool
with_run set from end = take from set ++ (replicate (end - from) true ++ drop end set)
