use Rattle.std.proofs.Common.{ap, arith}
use Rattle.work_pool.specs.Shows.{Worker}
use Rattle.work_pool.proofs.Offering.{offered_one, one_offer}
use Rattle.work_pool.proofs.offers.offer_one.Goals as goal

pub count_offer-requires-clause-few : goal.count_offer-requires-clause-few
count_offer-requires-clause-few g c =
    let is = c.who-who.ensures.holds in omega (arith, c.requires.small.0, is.limited, is.few)

pub returns-in-Some-clause-offers : goal.returns-in-Some-clause-offers
returns-in-Some-clause-offers g c =
    let gives = c.in-Some.ensures.gives in
    let put = c.put-hand.ensures in
    one_offer c.args.pool.now.usage c.args.pool.now.way (g.W.Work.leads c.args.work.now) c.args.hand c.put-hand.result.0 (g.W.Work.stands c.args.work.now) (g.W.Work.stands c.count_offer.new.work) c.args.drive c.count_offer.result
    (offered_one (g.W.Work.leads c.args.work.now) (g.W.Work.stands c.args.work.now) (g.W.Work.stands c.give.new.self) c.in-Some.item gives c.requires.room
    c.args.pool.now.usage c.args.pool.now.way c.args.hand c.put-hand.result.0 (g.W.Work.stands c.count_offer.new.work) c.put-hand.result.1 c.args.drive c.count_offer.result
    c.who-who.ensures.holds c.requires.small.1 put.gives (ap (λ (w : Worker). w.worker) put.same) (ap (λ (w : Worker). w.asked) put.same) c.count_offer.ensures.puts)
