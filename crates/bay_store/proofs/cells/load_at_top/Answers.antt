use Rattle.std.proofs.Common.{◌∙◌, ◌/◌, sym, ap, subst, arith}
use Rattle.std.proofs.lemmas.Nat.{mod_below}
use Rattle.bay_core.specs.declared.calls.Layout.TheVariants.{Paged}
use Rattle.bay_rule.specs.declared.bay_use.BayUse.{BayUse}
use Rattle.bay_rule.specs.declared.views.Stage.TheVariants.{Resting}
use Rattle.bay_rule.specs.declared.views.BayView.{BayView}
use Rattle.bay_rule.specs.Leaving.{staged}
use Rattle.bay_rule.specs.Calls.{EntryOf, offset_of}
use Rattle.bay_rule.specs.Words.{stack_entry}
use Rattle.bay_rule.proofs.Answering.{aimed_reply}
use Rattle.bay_store.proofs.Steps.{may_see}
use Rattle.bay_store.proofs.cells.load_at_top.Goals as goal

pub aim-cell-requires-clause-below : goal.aim-cell-requires-clause-below
aim-cell-requires-clause-below c =
    let blocks = c.blocks-2.ensures.value ∙ ap (λ (x : BayUse). x.blocks) c.usage.ensures in
    omega (arith, c.stack_entry-entry.ensures.below, blocks)

pub aim-cell-requires-clause-entry : goal.aim-cell-requires-clause-entry
aim-cell-requires-clause-entry c =
    let blocks = c.blocks-2.ensures.value ∙ ap (λ (x : BayUse). x.blocks) c.usage.ensures in
    subst (λ z. EntryOf c.args.rooms.now.usage.blocks z c.stack_entry-entry.result) (sym c.requires.stage)
    (c.stack_entry-entry.ensures.value ∙ ap (λ b. stack_entry b (c.args.place / 64)) blocks)

pub aim-cell-requires-clause-cell : goal.aim-cell-requires-clause-cell
aim-cell-requires-clause-cell c = ap offset_of (sym c.requires.stage)

pub aim-cell-requires-clause-short : goal.aim-cell-requires-clause-short
aim-cell-requires-clause-short c = mod_below c.args.place 64 (omega arith)

pub load-requires-clause-can : goal.load-requires-clause-can
load-requires-clause-can c =
    let aimed = c.aim-cell.ensures.aimed in
    may_see _ _ _ _ Paged _ _ _ c.requires.paged
    (ap (λ i. i.opening.room) c.aim-cell.ensures.same ∙ c.requires.room)
    (ap (λ (v : BayView). v.aim) aimed) (ap (λ (v : BayView). v.stage) aimed ∙ c.requires.stage)

pub returns-clause-loaded : goal.returns-clause-loaded
returns-clause-loaded c = (
  c.aim-cell.result,
  c.load.ensures.told.0 ∙ ap (λ u. staged u Resting) c.aim-cell.ensures.aimed,
)

pub returns-clause-reply : goal.returns-clause-reply
returns-clause-reply c = aimed_reply c.args.inside.now.caller.user _ _ _ c.aim-cell.ensures.aimed c.load.ensures.told.1
