use Rattle.image_core.proofs.Indexing.{IsIndex-fill}
use Rattle.image_core.proofs.index.HeaderIndex.new.Goals as goal

pub invariant_of-result : goal.invariant_of-result
invariant_of-result c =
    rw c.in_ok-bits.ensures (IsIndex-fill _ _ _ _ c.requires.fill.1 c.requires.long c.requires.bits)
