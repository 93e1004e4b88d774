use Rattle.std.proofs.Common.{◌≡◌, ◌↔◌, ℕ, take}
use Rattle.work_pool.specs.Running.{KeepsSome}
use Rattle.work_pool.proofs.offers_some.keep_all.Given as goal

-- the items before this place are kept
abbrev pub invariant-loop-i : goal.invariant-loop-i
invariant-loop-i g l = record {
  keeps : KeepsSome (take l.i l.items) (g.W.Work.stands l.initial.work) (g.W.Work.stands l.work);
  leads : (y : ℕ) (x : ℕ) → g.W.Work.leads l.work y x ↔ g.W.Work.leads l.initial.work y x;
  made : g.W.Work.made l.work ≡ g.W.Work.made l.initial.work;
}
