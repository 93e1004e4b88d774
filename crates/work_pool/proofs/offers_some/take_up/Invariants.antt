use Rattle.std.proofs.Common.{◌≡◌, ◌↔◌, ℕ, length, take}
use Rattle.bay_core.specs.declared.numbers.TheConstants.{MOST_ITEMS}
use Rattle.work_pool.specs.Running.{GivesSome}
use Rattle.work_pool.proofs.offers_some.take_up.Given as goal

-- the items before this place were given
abbrev pub invariant-loop-i : goal.invariant-loop-i
invariant-loop-i g l = record {
  long : length l.room ≡ MOST_ITEMS;
  gives : GivesSome (take l.i l.room) (g.W.Work.stands l.initial.work) (g.W.Work.stands l.work);
  leads : (y : ℕ) (x : ℕ) → g.W.Work.leads l.work y x ↔ g.W.Work.leads l.initial.work y x;
  made : g.W.Work.made l.work ≡ g.W.Work.made l.initial.work;
}
