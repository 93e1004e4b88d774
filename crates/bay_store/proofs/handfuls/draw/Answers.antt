use Rattle.std.proofs.Common.{◌∙◌, sym, ap, subst, arith}
use Rattle.bay_rule.specs.Calls.{PushReady}
use Rattle.bay_rule.specs.declared.bay_use.BayUse.{BayUse}
use Rattle.bay_rule.proofs.CanPushSome.{can_push_some}
use Rattle.bay_store.proofs.DrawingSome.{told_as}
use Rattle.bay_store.proofs.handfuls.draw.Goals as goal

pub add-requires-clause-can : goal.add-requires-clause-can
add-requires-clause-can c =
    let r = c.requires in
    let layout = ap (λ (x : BayUse). x.layout) (sym c.usage.ensures) ∙ sym c.layout-layout.ensures in
    let blocks = ap (λ (x : BayUse). x.blocks) (sym c.usage-2.ensures) ∙ sym c.blocks-blocks.ensures.value in
    let ready = subst (λ l. PushReady l c.args.inside.now.caller.user.stage c.args.pages c.args.free) layout r.ready in
    rw (c.turn-turn.ensures.value, ← r.who, c.parts-count.ensures.items)
    (can_push_some _ _ _ _ _ _ _ _ _ _ _ r.room layout blocks c.parts-count.ensures.count (omega (arith, r.some, c.parts-count.ensures.count))
    (omega (arith, r.few, c.parts-count.ensures.count)) ready r.fresh r.limited (omega (arith, r.shares, c.parts-count.ensures.count)))

pub returns-clause-told : goal.returns-clause-told
returns-clause-told c =
    let layout = ap (λ (x : BayUse). x.layout) (sym c.usage.ensures) ∙ sym c.layout-layout.ensures in
    let blocks = ap (λ (x : BayUse). x.blocks) (sym c.usage-2.ensures) ∙ sym c.blocks-blocks.ensures.value in
    told_as _ _ _ _ _ _ _ _ _ _ _ _ 0 _ _ (sym layout) (sym blocks) c.turn-turn.ensures.value c.parts-count.ensures.items c.add.ensures.told
