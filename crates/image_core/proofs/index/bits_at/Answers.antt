use Rattle.std.proofs.Common.{Bool, List, length, length-set, ap, ◌∙◌, subst, arith}
use Rattle.std.proofs.lemmas.List.{take_all}
use Rattle.image_core.specs.Index.{AreHeads}
use Rattle.image_core.proofs.Standing.{Fill-fits}
use Rattle.image_core.proofs.Indexing.{AreHeads-more}
use Rattle.image_core.proofs.index.bits_at.Goals as goal

pub insert-requires : goal.insert-requires
insert-requires c =
    omega (arith, Fill-fits _ _ _ c.requires.1 _ c.loop-head-test.true, c.loop-head.invariant.long)

pub loop-head-preserved : goal.loop-head-preserved
loop-head-preserved c =
    let i = c.loop-head.invariant in
    record {
      long = ap (λ (l : List Bool). length l) c.insert.ensures.set ∙ (length-set c.loop-head.bits _ _ ∙ i.long);
      bits = rw c.insert.ensures.set (AreHeads-more _ _ _ c.loop-head.bits _ c.requires.1 c.loop-head-test.true i.long i.bits);
    }

pub returns-clause-bits : goal.returns-clause-bits
returns-clause-bits c =
    subst (λ hs. AreHeads hs c.loop-head.bits)
    (take_all c.loop-head.head-index c.args.heads.now (omega (arith, c.loop-head-test.false))) c.loop-head.invariant.bits
