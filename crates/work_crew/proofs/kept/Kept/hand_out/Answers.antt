use Rattle.work_crew.proofs.Keeping.{hands_out}
use Rattle.std.proofs.Common.{sym}
use Rattle.work_crew.proofs.kept.Kept.hand_out.Goals as goal

pub returns : goal.returns
returns c =
    let p = c.pop.ensures in
    rw (sym c.self.view_is) (hands_out _ c.pop.new.self.items c.self.inside.space _ _ c.pop.result p.items (sym c.self.inside.items.ok.0) (sym c.pop.new.self.ok.0) c.self.invariant.0 p.cases)
