use Rattle.std.proofs.Common.{◌≡◌, ◌+◌, ◌-◌, ◌^◌, min, take, drop, length, length-take, ap, subst, arith}
use Rattle.std.proofs.lemmas.List.{take_rest}
use Rattle.work_pool.specs.Shows.{Worker}
use Rattle.work_pool.specs.Running.{KeepsSome}
use Rattle.work_pool.specs.declared.drives.Drive.{Drive}
use Rattle.work_pool.proofs.OfferingSome.{some_offered}
use Rattle.work_pool.proofs.offers_some.offer_some.Goals as goal

pub returns-clause-offers : goal.returns-clause-offers
returns-clause-offers g c =
    let put = c.put_some-hand.ensures in let answer = c.put_some-hand.result.1 in
    let count = c.take_up-count.result in let room = c.take_up-count.new.room in
    let mid = g.W.Work.stands c.take_up-count.new.work in let is = g.W.Work.stands c.keep_all.new.work in
    let many = length-take count room in
    let back = take_rest (take count room) answer.shared in
    let kept : c.saturating_add.result ≡ min (c.args.drive.kept + length (drop answer.shared (take count room))) (2 ^ 64 - 1) =
    omega (arith, c.saturating_add.ensures, ap length back) in
    some_offered c.args.pool.now.usage (g.W.Work.leads c.args.work.now) c.args.hand c.put_some-hand.result.0
    (g.W.Work.stands c.args.work.now) mid is (take count room) answer
    c.who-who.ensures.holds c.take_up-count.ensures.gives (subst (λ l. KeepsSome l mid is) back c.keep_all.ensures.keeps) c.requires.room
    (omega (arith, many, c.take_up-count.array_long, c.take_up-count.ensures.few, c.if-count-eq0.false)) (omega (arith, many, c.take_up-count.ensures.few)) put.gives
    c.args.pool.now.way c.requires.stack c.args.drive _ c.requires.small.1
    (ap (λ (w : Worker). w.worker) put.same) (ap (λ (w : Worker). w.asked) put.same)
    (ap (λ n. record c.args.drive { shared = c.args.drive.shared + answer.shared; kept = n }) kept)
