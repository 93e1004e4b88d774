-- Places that wait on a stack, and in a ring with their headers.
use Rattle.std.specs.Prelude.{◌≡◌, ℕ, List, [], ◌++◌, map, reverse, slice_index, All}
use Rattle.image_mark.specs.declared.ring.Next.{Next}

-- all that waits: the stack, whose last comes first, and above it the ring, whose first comes first
abbrev pub all_waiting : List ℕ → List Next → List ℕ
all_waiting waiting ring = waiting ++ reverse (map (λ next. next.place) ring)

-- each has the header that stands at its place
abbrev pub AreLoaded : List ℕ → List Next → Type 0
AreLoaded words ring = All (λ next. next.header ≡ slice_index words next.place) ring

-- the ring takes from the stack: all waits that waited, and nothing waits on the stack alone
pub record Fills (words : List ℕ) (ring ring_now : List Next) (waiting waiting_now : List ℕ) : Type 0 where
  pub same : all_waiting waiting_now ring_now ≡ all_waiting waiting ring
  pub loaded : AreLoaded words ring → AreLoaded words ring_now
  pub ahead : ring_now ≡ [] → waiting_now ≡ []
