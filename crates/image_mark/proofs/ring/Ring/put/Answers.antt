use Rattle.std.proofs.Common.{◌<◌, ◌∷◌, ◌++◌, [], length, ap, ◌∙◌, arith}
use Rattle.image_mark.proofs.Windows.{length-window, window_after_put}
use Rattle.image_mark.proofs.ring.Ring.put.Goals as goal

pub returns : goal.returns
returns c =
    let r = c.self.inside in
    let long = length-window _ _ r.slots c.self.invariant.0 c.self.invariant.1 c.self.invariant.2 in
    let same = ap length c.self.view_is in
    let room : r.held < 8 = omega arith in
    window_after_put _ _ r.slots c.self.invariant.0 c.self.invariant.1 c.self.invariant.2 c.args.next room
    ∙ ap (λ xs. xs ++ c.args.next ∷ []) c.self.view_is
