use Rattle.std.proofs.Common.{ℕ, ◌<◌, slice_index}
use Rattle.image_core.specs.Heap.{Names}
use Rattle.image_core.proofs.check.first_unnamed.Given as goal

abbrev pub invariant-loop-place : goal.invariant-loop-place
invariant-loop-place l = (k : ℕ) → k < l.place → Names l.index (slice_index l.words k)
