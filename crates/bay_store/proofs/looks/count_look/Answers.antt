use Rattle.std.proofs.Common.{◌∙◌, sym, ap}
use Rattle.bay_rule.specs.declared.bay_use.BayUse.{BayUse}
use Rattle.bay_rule.specs.Words.{looks_of}
use Rattle.bay_store.proofs.Looking.{may_look, look_as}
use Rattle.bay_store.proofs.looks.count_look.Goals as goal

pub add-requires-clause-can : goal.add-requires-clause-can
add-requires-clause-can c =
    let ready = c.requires.ready in
    let layout = ap (λ (x : BayUse). x.layout) (sym c.usage-2.ensures) ∙ sym c.layout-layout.ensures in
    let blocks = ap (λ (x : BayUse). x.blocks) (sym c.usage-3.ensures) ∙ sym c.blocks-blocks.ensures.value in
    rw (c.turn-turn.ensures.value, ← c.requires.who)
    (may_look _ _ _ _ _ _ _ _ _ c.requires.look ready.room_is layout blocks (c.looks_word-word.ensures ∙ ap (λ x. looks_of x) c.usage.ensures)
    ready.rests ready.fresh ready.limited)

pub returns-clause-told : goal.returns-clause-told
returns-clause-told c =
    let layout = ap (λ (x : BayUse). x.layout) (sym c.usage-2.ensures) ∙ sym c.layout-layout.ensures in
    let blocks = ap (λ (x : BayUse). x.blocks) (sym c.usage-3.ensures) ∙ sym c.blocks-blocks.ensures.value in
    look_as _ _ _ _ _ _ _ _ _ _ _ 0 (sym layout) (sym blocks) c.turn-turn.ensures.value c.add.ensures.told
