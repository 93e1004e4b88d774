use Rattle.std.proofs.Common.{◌∙◌, ◌+◌, drop, refl, ap, subst, arith}
use Rattle.room_gate.specs.Shows.{Caller}
use Rattle.bay_rule.specs.declared.views.BayView.{BayView}
use Rattle.bay_store.specs.Handfuls.{PutsOnce}
use Rattle.bay_store.specs.Handfuls.HasSpilled.{none, more}
use Rattle.bay_store.proofs.PuttingSome.{items_from, ran, puts_some, left_over}
use Rattle.bay_store.proofs.Gaining.{puts_entries}
use Rattle.bay_store.proofs.bays.Bay.push_some.Goals as goal

pub loop-pass-init : goal.loop-pass-init
loop-pass-init g c = record { again = 0; run = none; left = c.requires.some }

pub push_once-pass-requires-clause-own : goal.push_once-pass-requires-clause-own
push_once-pass-requires-clause-own g c =
    let inv = c.loop-pass.invariant in
    ap (λ (p : Caller BayView). p.site) (ran _ _ _ _ _ _ inv.run) ∙ c.requires.own

pub push_once-pass-requires-clause-share : goal.push_once-pass-requires-clause-share
push_once-pass-requires-clause-share g c =
    let inv = c.loop-pass.invariant in
    omega (arith, c.requires.share, ap (λ (p : Caller BayView). p.user.held) (ran _ _ _ _ _ _ inv.run))

pub loop-pass-preserved : goal.loop-pass-preserved
loop-pass-preserved g c =
    let inv = c.loop-pass.invariant in
    let once = subst (λ s. PutsOnce c.args.self.now.usage (drop c.loop-pass.stored c.args.items.now) c.push_once-pass.result.1.stored s c.loop-pass.caller c.push_once-pass.result.0)
    c.in-Overflow.is
    (subst (λ l. PutsOnce c.args.self.now.usage l c.push_once-pass.result.1.stored c.push_once-pass.result.1.stop c.loop-pass.caller c.push_once-pass.result.0)
    (items_from c.loop-pass.stored c.args.items.now) c.push_once-pass.ensures) in
    record {
      again = inv.again + 1;
      run = more inv.again c.loop-pass.stored c.push_once-pass.result.1.stored c.loop-pass.caller c.push_once-pass.result.0 inv.run once;
      left = left_over c.args.self.now.usage c.args.items.now c.args.pass _ _ _ _ inv.left once;
    }

pub returns-in_default : goal.returns-in_default
returns-in_default g c =
    let inv = c.loop-pass.invariant in
    let once = subst (λ l. PutsOnce c.args.self.now.usage l c.push_once-pass.result.1.stored c.push_once-pass.result.1.stop c.loop-pass.caller c.push_once-pass.result.0)
    (items_from c.loop-pass.stored c.args.items.now) c.push_once-pass.ensures in
    let puts = puts_some c.args.self.now.usage c.args.items.now c.args.pass inv.again c.loop-pass.stored c.push_once-pass.result.1.stored
    (c.loop-pass.stored + c.push_once-pass.result.1.stored) c.loop-pass.caller c.push_once-pass.result.0 inv.run inv.left refl
    c.push_once-pass.result.1.stop once c.in_default.not-Overflow in
    record {
      gives = puts;
      entries = puts_entries c.args.self.now.usage c.args.items.now c.args.pass c.who.ensures.mine inv.again c.loop-pass.stored c.push_once-pass.result.1.stored
          (c.loop-pass.stored + c.push_once-pass.result.1.stored) c.loop-pass.caller c.push_once-pass.result.0 inv.run refl c.push_once-pass.result.1.stop once;
      same_bay = ap (λ (p : Caller BayView). p.site) puts.same;
      held = ap (λ (p : Caller BayView). p.user.held) puts.same;
    }
