use Rattle.std.proofs.Common.{ℕ, ◌<◌, slice_index}
use Rattle.std.specs.List.{All}
use Rattle.image_core.specs.Object.{naming_at}
use Rattle.image_core.specs.Heap.{Names}
use Rattle.image_core.proofs.check.first_bad_reference.Given as goal

abbrev pub invariant-loop-head : goal.invariant-loop-head
invariant-loop-head l = (object : ℕ) → object < l.head-index → All (Names l.index) (naming_at l.format l.words (slice_index l.index object))
