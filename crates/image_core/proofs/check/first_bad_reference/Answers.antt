use Rattle.std.proofs.Common.{arith, ap, length, subst}
use Rattle.std.proofs.lemmas.List.{get_or_default}
use Rattle.std.specs.List.{All}
use Rattle.image_core.specs.Object.{naming_at}
use Rattle.image_core.specs.Heap.{Names}
use Rattle.image_core.proofs.Standing.{Fill-fits}
use Rattle.image_core.proofs.Faults.{bad_reference_of}
use Rattle.image_core.proofs.check.first_bad_reference.Goals as goal

pub naming-requires : goal.naming-requires
naming-requires c =
    rw c.heads-head-items.ensures (Fill-fits _ _ _ c.requires c.loop-head.head-index (rw c.heads-head-items.ensures at c.loop-head-test.true))

pub returns-in-Some-clause-bad : goal.returns-in-Some-clause-bad
returns-in-Some-clause-bad c =
    let bad = rw (c.naming.ensures, c.heads-head-items.ensures) at c.in-Some.ensures.bad in
    rw c.heads-head-items.ensures
    (bad_reference_of c.args.format c.args.words.now c.args.index.now c.requires c.loop-head.head-index _ (rw c.heads-head-items.ensures at c.loop-head-test.true) c.loop-head.invariant bad)

pub returns-clause-all : goal.returns-clause-all
returns-clause-all c = λ object d below.
    subst (λ head. All (Names c.args.index.now) (naming_at c.args.format c.args.words.now head)) (get_or_default c.args.index.now object 0 d below)
    (c.loop-head.invariant object (omega (arith, ap length c.heads-head-items.ensures)))
