use Rattle.std.proofs.Common.{◌≡◌, ◌+◌, ◌⊎◌, ℕ, List, Bool, map, length}
use Rattle.std.specs.List.{All, flat_map}
use Rattle.room_rule.specs.Use.{IsAt}
use Rattle.bay_core.specs.Times.{times}
use Rattle.image_core.specs.Heap.{Heap}
use Rattle.image_slide.specs.Parts.{IsSlid}
use Rattle.image_slide.specs.Sliding.{Sliding, AreOf, Accounts}
use Rattle.image_slide.proofs.crew.gathered.Given as goal

-- the pieces of the last ones are gathered, and the others are left
abbrev pub invariant-loop-work : goal.invariant-loop-work
invariant-loop-work l = record {
  numbers : (p : ℕ) → times p (map (λ part. part.piece) l.parts.items) + times p (flat_map (λ m. m.slid) l.rest.items)
      ≡ times p (flat_map (λ m. m.slid) l.fn.works.items);
  slid : (heap : Heap) (marks : List Bool) (ranks : List Bool) → AreOf heap marks ranks l.fn.works.items
      → AreOf heap marks ranks l.rest.items × All (IsSlid heap marks ranks) l.parts.items;
  accounts : (i : ℕ) (m : Sliding) → IsAt l.fn.works.items i m → IsAt l.rest.items i m ⊎ Accounts m;
}

abbrev pub decreases-loop-work : goal.decreases-loop-work
decreases-loop-work l = length l.rest.items
