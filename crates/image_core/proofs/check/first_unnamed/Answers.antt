use Rattle.std.proofs.Common.{arith, subst}
use Rattle.std.proofs.lemmas.List.{get_or_default}
use Rattle.image_core.specs.Heap.{Names}
use Rattle.image_core.proofs.check.first_unnamed.Goals as goal

pub returns-clause-all : goal.returns-clause-all
returns-clause-all c = λ k d below.
    subst (Names c.args.index.now) (get_or_default c.args.words.now k 0 d below) (c.loop-place.invariant k (omega arith))
