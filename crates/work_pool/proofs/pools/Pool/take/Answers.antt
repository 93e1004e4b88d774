use Rattle.std.proofs.Common.{◌∙◌}
use Rattle.work_pool.specs.Ways.{takes}
use Rattle.work_pool.proofs.Taking.{none_yet, item_taken, found_quiet, found_spent, still_trying}
use Rattle.work_pool.proofs.pools.Pool.take.Goals as goal

pub loop-init : goal.loop-init
loop-init g c = record {
  so_far = none_yet c.args.self.now.usage (takes c.args.self.now.way) c.args.hand c.who-who.ensures.holds c.requires.few;
  own = c.requires.own;
}

pub loop-preserved : goal.loop-preserved
loop-preserved g c =
    let tried = c.try_once-after.ensures in
    let tries = rw c.in-Nothing.is at tried.tries in
    record {
      so_far = still_trying c.args.self.now.usage (takes c.args.self.now.way) c.args.hand c.loop.hand c.try_once-after.result.0 c.loop.invariant.so_far tries tried.same;
      own = tried.same_bay ∙ c.loop.invariant.own;
    }

pub returns-in-Got-clause-works : goal.returns-in-Got-clause-works
returns-in-Got-clause-works g c =
    let tried = c.try_once-after.ensures in
    let tries = rw c.in-Got.is at tried.tries in
    item_taken c.args.self.now.usage (takes c.args.self.now.way) c.args.hand c.loop.hand c.try_once-after.result.0 c.loop.invariant.so_far c.in-Got.item c.in-Got.receipt tries tried.same

pub returns-in-Quiet-clause-works : goal.returns-in-Quiet-clause-works
returns-in-Quiet-clause-works g c =
    let tried = c.try_once-after.ensures in
    let tries = rw c.in-Quiet.is at tried.tries in
    found_quiet c.args.self.now.usage (takes c.args.self.now.way) c.args.hand c.loop.hand c.try_once-after.result.0 c.loop.invariant.so_far tries tried.same

pub returns-in-Spent-clause-works : goal.returns-in-Spent-clause-works
returns-in-Spent-clause-works g c =
    let tried = c.try_once-after.ensures in
    let tries = rw c.in-Spent.is at tried.tries in
    found_spent c.args.self.now.usage (takes c.args.self.now.way) c.args.hand c.loop.hand c.try_once-after.result.0 c.loop.invariant.so_far tries tried.same
