-- The entries of several callers as one list.
use Rattle.std.specs.Prelude.{◌≡◌, ◌==◌, ◌&&◌, ℕ, ◌<◌, ◌≤◌, ◌⊎◌, Bool, List, length, count_by}
use Rattle.std.specs.List.{flat_map, AllAdjacentBelow}
use Rattle.bay_core.specs.declared.calls.Entry.{Entry}

-- the entries of all lists, list by list
abbrev pub given : List (List Entry) → List Entry
given lists = flat_map (λ list. list) lists

-- one turn and rank are at most another's
abbrev pub AtMost : ℕ → ℕ → ℕ → ℕ → Type 0
AtMost turn rank t r = (turn < t) ⊎ ((turn ≡ t) × (rank ≤ r))

-- the turn and the rank of no entry are less than those of the one before it
abbrev pub IsRising : List Entry → Type 0
IsRising es = AllAdjacentBelow (λ d e. AtMost d.turn d.rank e.turn e.rank) es (length es)

-- the entry has this turn and this rank
abbrev pub stands_at : ℕ → ℕ → Entry → Bool
stands_at turn rank e = e.turn == turn && e.rank == rank

-- two of the entries, or more, have this turn and this rank
abbrev pub AreTwins : List Entry → ℕ → ℕ → Type 0
AreTwins es turn rank = 2 ≤ count_by (stands_at turn rank) es

-- two of the entries have this turn and this rank, and no two have lesser ones
pub record IsLeastTwin (es : List Entry) (turn rank : ℕ) : Type 0 where
  pub twins : AreTwins es turn rank
  pub least : (t r : ℕ) → AreTwins es t r → AtMost turn rank t r
