use Rattle.std.proofs.Common.{◌≤◌, length, sym, subst}
use Rattle.work_pool.specs.Standing.{Standing}
use Rattle.work_pool.proofs.Stepping.{kept_steps}
use Rattle.work_pool.proofs.Advancing.{HasShare, one_share, share_to_offer, share_to_step, kept_advances, offers_weaker, offers_advance}
use Rattle.work_pool.proofs.advances.advance.Goals as goal

pub handle_one-hand-requires-clause-share : goal.handle_one-hand-requires-clause-share
handle_one-hand-requires-clause-share g c =
    let u = rw c.in-Some.is at c.spared.ensures.unkeeps in
    one_share c.args.hand (g.W.Work.stands c.args.work.now) (g.W.Work.stands c.spared.new.work) c.in-Some.item u c.requires.share

pub returns-in-Some-clause-advances : goal.returns-in-Some-clause-advances
returns-in-Some-clause-advances g c =
    let u = rw c.in-Some.is at c.spared.ensures.unkeeps in
    let h = c.handle_one-hand.ensures.handles in
    kept_advances c.args.pool.now.usage c.args.pool.now.way (g.W.Work.leads c.args.work.now) (g.W.Work.leads c.spared.new.work c.in-Some.item) c.in-Some.item
    c.args.hand c.handle_one-hand.result.0 (g.W.Work.stands c.args.work.now) (g.W.Work.stands c.spared.new.work) (g.W.Work.stands c.handle_one-hand.new.work)
    c.args.drive c.handle_one-hand.result.1 c.requires.small.1 h
    (kept_steps c.args.pool.now.usage c.args.pool.now.way (g.W.Work.leads c.args.work.now) (g.W.Work.leads c.spared.new.work c.in-Some.item) c.in-Some.item (λ x l. (c.spared.ensures.leads c.in-Some.item x).0 l)
    (g.W.Work.stands c.args.work.now) (g.W.Work.stands c.spared.new.work) (g.W.Work.stands c.handle_one-hand.new.work) u c.args.hand c.handle_one-hand.result.0 c.handle_one-hand.result.1
    c.who-who.ensures.holds (one_share c.args.hand (g.W.Work.stands c.args.work.now) (g.W.Work.stands c.spared.new.work) c.in-Some.item u c.requires.share) h)

pub offer_all-hand-requires-clause-share : goal.offer_all-hand-requires-clause-share
offer_all-hand-requires-clause-share g c =
    let same = rw c.in-None.is at c.spared.ensures.unkeeps in
    share_to_offer c.args.hand (g.W.Work.stands c.spared.new.work) (subst (HasShare c.args.hand) (sym same) c.requires.share)

pub offer_all-hand-requires-clause-room : goal.offer_all-hand-requires-clause-room
offer_all-hand-requires-clause-room g c =
    let same = rw c.in-None.is at c.spared.ensures.unkeeps in
    subst (λ (s : Standing). length s.to_give ≤ s.spare) (sym same) c.requires.room

pub next_step-hand-requires-clause-share : goal.next_step-hand-requires-clause-share
next_step-hand-requires-clause-share g c =
    let same = rw c.in-None.is at c.spared.ensures.unkeeps in
    share_to_step c.args.pool.now.usage c.args.pool.now.way (g.W.Work.leads c.spared.new.work) c.args.hand c.offer_all-hand.result.0
    (g.W.Work.stands c.spared.new.work) (g.W.Work.stands c.offer_all-hand.new.work) c.args.drive c.offer_all-hand.result.1
    c.offer_all-hand.ensures.offers (subst (HasShare c.args.hand) (sym same) c.requires.share)

pub returns-in-None-clause-advances : goal.returns-in-None-clause-advances
returns-in-None-clause-advances g c =
    let same = rw c.in-None.is at c.spared.ensures.unkeeps in
    let o = c.offer_all-hand.ensures in let n = c.next_step-hand.ensures in let k = c.spared.ensures in
    let offers = offers_weaker c.args.pool.now.usage c.args.pool.now.way (g.W.Work.leads c.args.work.now) (g.W.Work.leads c.spared.new.work) (λ y x. (k.leads y x).0)
    c.args.hand c.offer_all-hand.result.0 (g.W.Work.stands c.args.work.now) (g.W.Work.stands c.spared.new.work) (g.W.Work.stands c.offer_all-hand.new.work)
    c.args.drive c.offer_all-hand.result.1 c.who-who.ensures.holds c.requires.room same o.offers in
    offers_advance c.args.pool.now.usage c.args.pool.now.way (g.W.Work.leads c.args.work.now) (g.W.Work.leads c.offer_all-hand.new.work)
    (λ y x l. (k.leads y x).0 ((o.leads y x).0 l))
    c.args.hand c.offer_all-hand.result.0 c.next_step-hand.result.0 (g.W.Work.stands c.args.work.now) (g.W.Work.stands c.offer_all-hand.new.work) (g.W.Work.stands c.next_step-hand.new.work)
    c.args.drive c.offer_all-hand.result.1 offers c.next_step-hand.result.1 n.steps
