use Rattle.std.proofs.Common.{refl, ◌∙◌}
use Rattle.work_pool.proofs.Offering.{no_offer, offer_more, share_more, small_then}
use Rattle.work_pool.proofs.offers.offer_all.Goals as goal

pub loop-then-init : goal.loop-then-init
loop-then-init g c = record {
  so_far = no_offer c.args.pool.now.usage c.args.pool.now.way (g.W.Work.leads c.args.work.now) c.args.hand (g.W.Work.stands c.args.work.now) c.args.drive c.who-who.ensures.holds c.requires.room c.requires.small.1;
  own = c.requires.own;
  share = c.requires.share;
  leads = λ y x. (λ l. l, λ l. l);
  made = refl;
}

pub loop-then-preserved : goal.loop-then-preserved
loop-then-preserved g c =
    let h = c.loop-then.invariant in
    let o = c.offer_next-after.ensures in
    let one = rw c.in-Some.is at o.offers in
    record {
      so_far = offer_more c.args.pool.now.usage c.args.pool.now.way (g.W.Work.leads c.args.work.now) (g.W.Work.leads c.loop-then.work) (λ y x. (h.leads y x).0)
          c.args.hand c.loop-then.hand c.offer_next-after.result.0 (g.W.Work.stands c.args.work.now) (g.W.Work.stands c.loop-then.work) (g.W.Work.stands c.offer_next-after.new.work)
          c.args.drive c.loop-then.drive c.in-Some.then h.so_far one;
      own = o.same_bay ∙ h.own;
      share = share_more c.loop-then.hand c.offer_next-after.result.0 (g.W.Work.stands c.loop-then.work) (g.W.Work.stands c.offer_next-after.new.work) one.held one.fewer h.share;
      leads = λ y x. (λ l. (h.leads y x).0 ((o.leads y x).0 l), λ l. (o.leads y x).1 ((h.leads y x).1 l));
      made = o.made ∙ h.made;
    }

pub offer_next-after-requires-clause-small : goal.offer_next-after-requires-clause-small
offer_next-after-requires-clause-small g c =
    let h = c.loop-then.invariant in
    small_then c.args.pool.now.usage c.args.pool.now.way (g.W.Work.leads c.args.work.now) c.args.hand c.loop-then.hand (g.W.Work.stands c.args.work.now) (g.W.Work.stands c.loop-then.work)
    c.args.drive c.loop-then.drive h.so_far c.requires.small.0

pub offer_next-after-requires-clause-room : goal.offer_next-after-requires-clause-room
offer_next-after-requires-clause-room g c = c.loop-then.invariant.so_far.goes.stock.room
