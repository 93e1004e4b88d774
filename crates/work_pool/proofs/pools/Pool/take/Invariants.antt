use Rattle.std.proofs.Common.{◌≡◌}
use Rattle.work_pool.specs.Ways.{takes}
use Rattle.work_pool.proofs.Taking.{WorksSoFar}
use Rattle.work_pool.proofs.pools.Pool.take.Given as goal

abbrev pub invariant-loop : goal.invariant-loop
invariant-loop g l = record {
  so_far : WorksSoFar l.self.usage (takes l.self.way) l.fn.hand l.hand;
  own : l.hand.caller.site ≡ l.self.site;
}
