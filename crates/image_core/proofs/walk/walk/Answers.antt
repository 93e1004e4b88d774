use Rattle.std.proofs.Common.{Bool, List, length, length-set, ap, ◌∙◌, arith}
use Rattle.image_core.proofs.Standing.{Stand-push}
use Rattle.image_core.proofs.Indexing.{AreHeads-push}
use Rattle.image_core.proofs.walk.walk.Goals as goal

pub loop-at-preserved : goal.loop-at-preserved
loop-at-preserved c =
    let i = c.loop-at.invariant in
    record {
      within = omega arith;
      stand = rw (c.in_ok-push.ensures.items, c.size-size.ensures.value) (Stand-push _ _ _ _ _ i.stand c.loop-at-test.true);
      long = ap (λ (l : List Bool). length l) c.insert.ensures.set ∙ (length-set c.loop-at.bits _ _ ∙ i.long);
      bits = rw (c.in_ok-push.ensures.items, c.insert.ensures.set)
          (AreHeads-push _ c.loop-at.bits c.loop-at.at i.bits (omega (arith, c.loop-at-test.true, i.long)));
    }
