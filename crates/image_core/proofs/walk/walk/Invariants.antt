use Rattle.std.proofs.Common.{◌≡◌, length, ◌-◌, ◌≤◌}
use Rattle.image_core.specs.Heap.{Stand}
use Rattle.image_core.specs.Index.{AreHeads}
use Rattle.image_core.proofs.walk.walk.Given as goal

abbrev pub invariant-loop-at : goal.invariant-loop-at
invariant-loop-at l = record {
  within : l.at ≤ length l.words;
  stand : Stand l.format l.words 0 l.heads.items l.at;
  long : length l.bits ≡ length l.words;
  bits : AreHeads l.heads.items l.bits;
}

abbrev pub decreases-loop-at : goal.decreases-loop-at
decreases-loop-at l = length l.words - l.at
