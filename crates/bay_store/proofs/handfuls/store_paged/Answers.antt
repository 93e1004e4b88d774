use Rattle.std.proofs.Common.{◌∙◌, ◌+◌, ◌/◌, sym, ap, subst, arith}
use Rattle.std.proofs.lemmas.Nat.{mod_below}
use Rattle.room_gate.specs.Shows.{Insider}
use Rattle.bay_core.specs.declared.calls.Layout.TheVariants.{Paged}
use Rattle.bay_rule.specs.declared.bay_use.BayUse.{BayUse}
use Rattle.bay_rule.specs.declared.views.BayView.{BayView}
use Rattle.bay_rule.specs.Calls.{EntryOf, offset_of}
use Rattle.bay_rule.specs.Leaving.{aimed}
use Rattle.bay_rule.specs.Words.{stack_entry}
use Rattle.bay_rule.proofs.Answering.{filling_at, filled_at}
use Rattle.bay_store.proofs.FillingSome.{may_fill}
use Rattle.bay_store.proofs.handfuls.store_paged.Goals as goal

pub aim-cell-requires-clause-entry : goal.aim-cell-requires-clause-entry
aim-cell-requires-clause-entry c =
    let blocks = c.blocks-blocks.ensures.value ∙ ap (λ (x : BayUse). x.blocks) c.usage.ensures in
    let stage = c.loop-i.invariant.stage ∙ filling_at (c.args.place + c.loop-i.i) c.loop-i.i c.args.items.now (omega arith) in
    subst (λ z. EntryOf c.args.rooms.now.usage.blocks z c.stack_entry.result) (sym stage)
    (c.stack_entry.ensures.value ∙ ap (λ b. stack_entry b ((c.args.place + c.loop-i.i) / 64)) blocks)

pub aim-cell-requires-clause-cell : goal.aim-cell-requires-clause-cell
aim-cell-requires-clause-cell c =
    let stage = c.loop-i.invariant.stage ∙ filling_at (c.args.place + c.loop-i.i) c.loop-i.i c.args.items.now (omega arith) in
    ap offset_of (sym stage)

pub aim-cell-requires-clause-short : goal.aim-cell-requires-clause-short
aim-cell-requires-clause-short c = mod_below (c.args.place + c.loop-i.i) 64 (omega arith)

pub store-requires-clause-can : goal.store-requires-clause-can
store-requires-clause-can c =
    let aimed = c.aim-cell.ensures.aimed in
    may_fill _ _ _ _ Paged _ _ _ _ _ c.requires.paged
    (ap (λ (i : Insider (Unit {0}) BayView). i.opening.room) c.aim-cell.ensures.same
    ∙ (ap (λ (i : Insider (Unit {0}) BayView). i.opening.room) c.loop-i.invariant.same ∙ c.requires.room))
    (ap (λ (v : BayView). v.aim) aimed)
    (ap (λ (v : BayView). v.stage) aimed
    ∙ (c.loop-i.invariant.stage ∙ filling_at (c.args.place + c.loop-i.i) c.loop-i.i c.args.items.now (omega arith)))

pub loop-i-preserved : goal.loop-i-preserved
loop-i-preserved c =
    let i = c.loop-i.i in let inv = c.loop-i.invariant in
    let aim = c.aim-cell.ensures in let told = c.store.ensures.told.1 in
    let w = c.store.new.inside.caller.user in
    let filled = filled_at c.args.place i c.args.items.now c.aim-cell.new.inside.caller.user w (omega arith)
    (ap (λ (v : BayView). v.stage) aim.aimed ∙ inv.stage) told in
    record {
      stage = filled.0;
      user = filled.1 ∙ ap (λ (y : BayView). record y { stage = w.stage; aim = w.aim })
          (aim.aimed ∙ ap (λ (y : BayView). aimed y c.aim-cell.result) inv.user);
      same = c.store.ensures.same
          ∙ ap (λ (j : Insider (Unit {0}) BayView). record j { caller = record j.caller { user = w }; held = c.store.new.inside.held })
          (aim.same ∙ ap (λ (j : Insider (Unit {0}) BayView). record j { caller = record j.caller { user = c.aim-cell.new.inside.caller.user }; held = c.aim-cell.new.inside.held }) inv.same);
      none = λ e. absurd (omega (arith, e));
    }
