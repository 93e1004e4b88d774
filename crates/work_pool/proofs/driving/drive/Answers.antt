use Rattle.std.proofs.Common.{inl, refl, ◌∙◌}
use Rattle.work_pool.proofs.WholeDrives.{no_step, small_so_far, step_more, wanting_drives, quiet_drives, spent_drives}
use Rattle.work_pool.proofs.driving.drive.Goals as goal

pub loop-init : goal.loop-init
loop-init g c = record {
  so_far = no_step c.args.pool.now.usage c.args.pool.now.way (g.W.Work.leads c.args.work.now) c.args.hand (g.W.Work.stands c.args.work.now) c.who-who.ensures.holds c.requires.room;
  own = c.requires.own;
  share = c.requires.share;
  leads = λ y x. (λ l. l, λ l. l);
  made = refl;
}

pub advance-after-requires-clause-own : goal.advance-after-requires-clause-own
advance-after-requires-clause-own g c = c.loop.invariant.own

pub advance-after-requires-clause-share : goal.advance-after-requires-clause-share
advance-after-requires-clause-share g c = c.loop.invariant.share

pub advance-after-requires-clause-room : goal.advance-after-requires-clause-room
advance-after-requires-clause-room g c = c.loop.invariant.so_far.goes.stock.room

pub advance-after-requires-clause-small : goal.advance-after-requires-clause-small
advance-after-requires-clause-small g c =
    small_so_far c.args.pool.now.usage c.args.pool.now.way (g.W.Work.leads c.args.work.now) c.args.hand c.loop.hand (g.W.Work.stands c.args.work.now) (g.W.Work.stands c.loop.work)
    c.loop.drive c.loop.invariant.so_far

pub loop-preserved : goal.loop-preserved
loop-preserved g c =
    let h = c.loop.invariant in let n = c.advance-after.ensures in
    let steps = rw c.in-Handled.is at n.advances in
    record {
      so_far = step_more c.args.pool.now.usage c.args.pool.now.way (g.W.Work.leads c.args.work.now) (g.W.Work.leads c.loop.work) (λ y x. (c.loop.invariant.leads y x).0)
          c.args.hand c.loop.hand c.advance-after.result.0 (g.W.Work.stands c.args.work.now) (g.W.Work.stands c.loop.work) (g.W.Work.stands c.advance-after.new.work)
          c.loop.drive c.advance-after.result.2 c.loop.invariant.so_far steps;
      own = n.same_bay ∙ h.own;
      share = inl steps.held;
      leads = λ y x. (λ l. (h.leads y x).0 ((n.leads y x).0 l), λ l. (n.leads y x).1 ((h.leads y x).1 l));
      made = n.made ∙ h.made;
    }

pub returns-in-Wanting-clause-drives : goal.returns-in-Wanting-clause-drives
returns-in-Wanting-clause-drives g c =
    wanting_drives c.args.pool.now.usage c.args.pool.now.way (g.W.Work.leads c.args.work.now) (g.W.Work.leads c.loop.work) (λ y x. (c.loop.invariant.leads y x).0)
    c.args.hand c.loop.hand c.advance-after.result.0 (g.W.Work.stands c.args.work.now) (g.W.Work.stands c.loop.work) (g.W.Work.stands c.advance-after.new.work)
    c.loop.drive c.advance-after.result.2 c.loop.invariant.so_far c.in-Wanting.error (rw c.in-Wanting.is at c.advance-after.ensures.advances)

pub returns-in-Quiet-clause-drives : goal.returns-in-Quiet-clause-drives
returns-in-Quiet-clause-drives g c =
    quiet_drives c.args.pool.now.usage c.args.pool.now.way (g.W.Work.leads c.args.work.now) (g.W.Work.leads c.loop.work) (λ y x. (c.loop.invariant.leads y x).0)
    c.args.hand c.loop.hand c.advance-after.result.0 (g.W.Work.stands c.args.work.now) (g.W.Work.stands c.loop.work) (g.W.Work.stands c.advance-after.new.work)
    c.loop.drive c.advance-after.result.2 c.loop.invariant.so_far (rw c.in-Quiet.is at c.advance-after.ensures.advances)

pub returns-in-Spent-clause-drives : goal.returns-in-Spent-clause-drives
returns-in-Spent-clause-drives g c =
    spent_drives c.args.pool.now.usage c.args.pool.now.way (g.W.Work.leads c.args.work.now) (g.W.Work.leads c.loop.work) (λ y x. (c.loop.invariant.leads y x).0)
    c.args.hand c.loop.hand c.advance-after.result.0 (g.W.Work.stands c.args.work.now) (g.W.Work.stands c.loop.work) (g.W.Work.stands c.advance-after.new.work)
    c.loop.drive c.advance-after.result.2 c.loop.invariant.so_far (rw c.in-Spent.is at c.advance-after.ensures.advances)
