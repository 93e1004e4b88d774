use Rattle.std.proofs.Common.{◌≡◌, length, sym, ap, ◌∙◌, rules}
use Rattle.image_mark.proofs.Windows.{length-window}
use Rattle.image_mark.proofs.ring.Ring.is_full.Goals as goal

pub returns-clause-full : goal.returns-clause-full
returns-clause-full c =
    let r = c.self.inside in
    let held : length c.args.self.now ≡ r.held = sym (ap length c.self.view_is) ∙ length-window _ _ r.slots c.self.invariant.0 c.self.invariant.1 c.self.invariant.2 in
    rw held (search rules)
