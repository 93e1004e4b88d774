use Rattle.work_pool.proofs.Stepping.{took_steps, quiet_steps, spent_steps, room_none}
use Rattle.work_pool.proofs.steps.take_one.Goals as goal

pub returns-in-Item-clause-steps : goal.returns-in-Item-clause-steps
returns-in-Item-clause-steps g c =
    let w = rw c.in-Item.is at c.take-hand.ensures.works in
    took_steps c.args.pool.now.way (g.W.Work.leads c.args.work.now) (g.W.Work.leads c.args.work.now c.in-Item.item) c.in-Item.item (λ x l. l)
    c.args.pool.now.usage c.args.hand c.take-hand.result.0 _ c.who-who.ensures.holds w (g.W.Work.stands c.args.work.now) (g.W.Work.stands c.handle_one.new.work) (room_none (g.W.Work.stands c.args.work.now) c.requires.none)
    c.handle_one.result.0 c.handle_one.result.1 c.handle_one.ensures.handles

pub returns-in-Quiet-clause-steps : goal.returns-in-Quiet-clause-steps
returns-in-Quiet-clause-steps g c =
    let w = rw c.in-Quiet.is at c.take-hand.ensures.works in
    quiet_steps c.args.pool.now.way (g.W.Work.leads c.args.work.now) c.args.pool.now.usage c.args.hand c.take-hand.result.0 (g.W.Work.stands c.args.work.now) w (room_none (g.W.Work.stands c.args.work.now) c.requires.none) c.requires.none_kept

pub returns-in-Spent-clause-steps : goal.returns-in-Spent-clause-steps
returns-in-Spent-clause-steps g c =
    let w = rw c.in-Spent.is at c.take-hand.ensures.works in
    spent_steps c.args.pool.now.way (g.W.Work.leads c.args.work.now) c.args.pool.now.usage c.args.hand c.take-hand.result.0 (g.W.Work.stands c.args.work.now) w (room_none (g.W.Work.stands c.args.work.now) c.requires.none) c.requires.none_kept
