-- What a crew claimed whose bay is closed.
use Rattle.std.specs.Prelude.{◌≡◌, ◌⊎◌, ℕ, ◌+◌, ◌^◌, ◌<◌, List, length, sum_by, Contains}
use Rattle.atomic_table.specs.Seated.{TableId}
use Rattle.room_rule.specs.Use.{IsAt}
use Rattle.mark_words.specs.Shows.{Claimant}
use Rattle.mark_words.specs.Closing.{all_won, all_found}
use Rattle.image_core.specs.Heap.{Heap}
use Rattle.image_core.specs.Live.{IsRoot, RefersTo, IsLive}
use Rattle.work_pool.specs.declared.drives.Drive.{Drive}

-- one of the seats has claimed the object, whether it won it or found it set
abbrev pub IsClaimed : List Claimant → ℕ → Type 0
IsClaimed seats x = Contains (all_won seats) x ⊎ Contains (all_found seats) x

-- The seats of a crew claimed the objects of the roots, and each child of each object that one of them won,
-- but for those objects that are left. They won live objects alone, and the drives counted each win.
pub record HasClaimedAll (heap : Heap) (claims : TableId) (workers : ℕ) (seats : List Claimant)
    (drives : List Drive) (left : List ℕ) : Type 0 where
  pub many : length seats ≡ workers
  pub own : (i : ℕ) (s : Claimant) → IsAt seats i s → s.site ≡ claims
  pub live : (x : ℕ) → Contains (all_won seats) x → IsLive heap x
  pub left_won : (x : ℕ) → Contains left x → Contains (all_won seats) x
  pub roots : (x : ℕ) → IsRoot heap x → IsClaimed seats x
  pub children : (y : ℕ) → Contains (all_won seats) y
      → Contains left y ⊎ ((x : ℕ) → RefersTo heap y x → IsClaimed seats x)
  pub counted : length (all_won seats) < 2 ^ 64
      → sum_by (λ d. d.shared) drives + sum_by (λ d. d.kept) drives ≡ length (all_won seats)
