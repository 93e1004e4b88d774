use Rattle.std.proofs.Common.{◌<◌, sym, ◌∙◌, arith}
use Rattle.image_mark.proofs.Windows.{window_before_take}
use Rattle.image_mark.proofs.ring.Ring.take.Goals as goal

pub returns-clause-some : goal.returns-clause-some
returns-clause-some c =
    let r = c.self.inside in
    let some : 0 < r.held = omega (arith, c.if-self-eq0.false) in
    sym c.self.view_is ∙ window_before_take _ _ r.slots c.self.invariant.0 c.self.invariant.1 c.self.invariant.2 record { place = 0; header = 0 } some
