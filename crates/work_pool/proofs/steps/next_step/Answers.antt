use Rattle.work_pool.proofs.Stepping.{kept_steps, none_steps, one_held, room_none}
use Rattle.work_pool.proofs.steps.next_step.Goals as goal

pub handle_one-requires-clause-share : goal.handle_one-requires-clause-share
handle_one-requires-clause-share g c =
    let u = rw c.in-Some.is at c.kept.ensures.unkeeps in
    one_held c.args.hand (g.W.Work.stands c.args.work.now) (g.W.Work.stands c.kept.new.self) c.in-Some.item u c.requires.share

pub returns-in-Some-clause-steps : goal.returns-in-Some-clause-steps
returns-in-Some-clause-steps g c =
    let u = rw c.in-Some.is at c.kept.ensures.unkeeps in
    kept_steps c.args.pool.now.usage c.args.pool.now.way (g.W.Work.leads c.args.work.now) (g.W.Work.leads c.kept.new.self c.in-Some.item) c.in-Some.item (λ x l. (c.kept.ensures.leads c.in-Some.item x).0 l)
    (g.W.Work.stands c.args.work.now) (g.W.Work.stands c.kept.new.self) (g.W.Work.stands c.handle_one.new.work) u c.args.hand c.handle_one.result.0 c.handle_one.result.1
    c.who-who.ensures.holds (one_held c.args.hand (g.W.Work.stands c.args.work.now) (g.W.Work.stands c.kept.new.self) c.in-Some.item u c.requires.share) c.handle_one.ensures.handles

pub returns-in-None-clause-steps : goal.returns-in-None-clause-steps
returns-in-None-clause-steps g c =
    let u = rw c.in-None.is at c.kept.ensures.unkeeps in
    none_steps c.args.pool.now.usage c.args.pool.now.way (g.W.Work.leads c.args.work.now) (g.W.Work.leads c.kept.new.self) (λ y x l. (c.kept.ensures.leads y x).0 l)
    c.args.hand c.take_one.result.0 (g.W.Work.stands c.args.work.now) (g.W.Work.stands c.kept.new.self) (g.W.Work.stands c.take_one.new.work) c.take_one.result.1 u
    c.who-who.ensures.holds (room_none (g.W.Work.stands c.args.work.now) c.requires.none) c.take_one.ensures.steps
