use Rattle.std.proofs.Common.{sym}
use Rattle.work_crew.proofs.Keeping.{unkeeps_one}
use Rattle.halving.proofs.twice.TwiceWork.kept.Goals as goal

pub returns-clause-unkeeps : goal.returns-clause-unkeeps
returns-clause-unkeeps c = rw (sym c.self.view_is) (unkeeps_one c.self.inside.at c.self.inside.all.items c.self.inside.done.items _ _ c.hand_out.result c.hand_out.ensures)
