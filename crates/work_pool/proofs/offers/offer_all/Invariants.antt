use Rattle.std.proofs.Common.{◌≡◌, ℕ, ◌↔◌, ◌⊎◌, ◌≤◌, [], length}
use Rattle.work_pool.proofs.Offering.{OffersSoFar}
use Rattle.work_pool.proofs.offers.offer_all.Given as goal

abbrev pub invariant-loop-then : goal.invariant-loop-then
invariant-loop-then g l = record {
  so_far : OffersSoFar l.pool.usage l.pool.way (g.W.Work.leads l.initial.work) l.fn.hand l.hand (g.W.Work.stands l.initial.work) (g.W.Work.stands l.work) l.fn.drive l.drive;
  own : l.hand.caller.site ≡ l.pool.site;
  share : (1 ≤ l.hand.caller.user.held) ⊎ ((g.W.Work.stands l.work).to_give ≡ []);
  leads : (y : ℕ) (x : ℕ) → g.W.Work.leads l.work y x ↔ g.W.Work.leads l.initial.work y x;
  made : g.W.Work.made l.work ≡ g.W.Work.made l.initial.work;
}

abbrev pub decreases-loop-then : goal.decreases-loop-then
decreases-loop-then g l = length (g.W.Work.stands l.work).to_give
