use Rattle.std.proofs.Common.{◌∙◌, sym, ap, subst}
use Rattle.room_gate.specs.Shows.{Caller}
use Rattle.bay_rule.specs.declared.views.BayView.{BayView}
use Rattle.work_pool.specs.Ways.{puts}
use Rattle.work_pool.specs.Shows.{Worker}
use Rattle.work_pool.proofs.Putting.{put_tells}
use Rattle.work_pool.proofs.pools.Pool.put.Goals as goal

pub returns-clause-gives : goal.returns-clause-gives
returns-clause-gives g c =
    let is = c.who-who.ensures.holds in
    rw (c.answer.ensures)
    (put_tells c.args.self.now.usage (puts c.args.self.now.way) c.args.item c.args.hand.caller c.call_in-pass.result.0 is.mine c.call_in-pass.result.1
    (rw (sym c.hand.view_is) c.call_in-pass.ensures.gives))
