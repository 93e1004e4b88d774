use Rattle.std.proofs.Common.{◌≡◌, ℕ, ◌↔◌}
use Rattle.work_pool.proofs.Advancing.{HasShare}
use Rattle.work_pool.proofs.WholeDrives.{DrivesSoFar}
use Rattle.work_pool.proofs.driving.drive.Given as goal

abbrev pub invariant-loop : goal.invariant-loop
invariant-loop g l = record {
  so_far : DrivesSoFar l.pool.usage l.pool.way (g.W.Work.leads l.initial.work) l.fn.hand l.hand (g.W.Work.stands l.initial.work) (g.W.Work.stands l.work) l.drive;
  own : l.hand.caller.site ≡ l.pool.site;
  share : HasShare l.hand (g.W.Work.stands l.work);
  leads : (y : ℕ) (x : ℕ) → g.W.Work.leads l.work y x ↔ g.W.Work.leads l.initial.work y x;
  made : g.W.Work.made l.work ≡ g.W.Work.made l.initial.work;
}
