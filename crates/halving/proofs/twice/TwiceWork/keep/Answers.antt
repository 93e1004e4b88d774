use Rattle.std.proofs.Common.{sym}
use Rattle.work_crew.proofs.Keeping.{keeps_one}
use Rattle.halving.proofs.twice.TwiceWork.keep.Goals as goal

pub returns-clause-keeps : goal.returns-clause-keeps
returns-clause-keeps c = rw (sym c.self.view_is) (keeps_one c.self.inside.at c.self.inside.all.items c.self.inside.done.items _ _ c.args.item c.keep.ensures)
