use Rattle.std.proofs.Common.{sym}
use Rattle.work_pool.proofs.Several.{several_tells}
use Rattle.work_pool.proofs.pools.Pool.put_some.Goals as goal

pub returns-clause-gives : goal.returns-clause-gives
returns-clause-gives g c =
    let is = c.who-who.ensures.holds in
    several_tells c.args.self.now.usage c.args.items.now c.args.hand.caller is.mine is.limited c.push_some-pass.result.0
    (record { shared = c.push_some-pass.result.1.stored; stop = c.push_some-pass.result.1.stop })
    (rw (sym c.self.view_is) (rw (sym c.hand.view_is) c.push_some-pass.ensures.gives))
