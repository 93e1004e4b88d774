-- The next of a set from a place on.
use Rattle.std.specs.Prelude.{◌≡◌, ℕ, ◌<◌, ◌≤◌, Bool, true, false, List, length, slice_index_or}

-- it is in the set, not below the place, and none from the place up to it is
pub record IsNext (set : List Bool) (place next : ℕ) : Type 0 where
  pub above : place ≤ next
  pub within : next < length set
  pub there : slice_index_or set next false ≡ true
  pub least : (k : ℕ) → place ≤ k → k < next → slice_index_or set k false ≡ false
