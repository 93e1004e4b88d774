use Rattle.std.proofs.Common.{◌≡◌, ◌∙◌, inl, inr, sym, ap, arith}
use Rattle.room_gate.specs.Shows.{Insider}
use Rattle.bay_rule.specs.declared.bay_use.BayUse.{BayUse}
use Rattle.bay_rule.specs.declared.views.BayView.{BayView}
use Rattle.bay_rule.specs.Told.{most_in}
use Rattle.bay_rule.proofs.CanPeek.{can_peek_top}
use Rattle.bay_store.proofs.Looking.{saw_none, saw_item}
use Rattle.bay_store.proofs.looks.peek.Goals as goal

pub load-top-requires-clause-can : goal.load-top-requires-clause-can
load-top-requires-clause-can c =
    let layout = ap (λ (x : BayUse). x.layout) (sym c.usage.ensures) ∙ sym c.layout-layout.ensures in
    let blocks = ap (λ (x : BayUse). x.blocks) (sym c.usage-2.ensures) ∙ sym c.blocks-blocks.ensures.value in
    can_peek_top _ _ _ _ _ (ap (λ (i : Insider (Unit {0}) BayView). i.opening.room) c.count_look-rank.ensures.same ∙ c.requires.ready.room_is)
    _ _ layout blocks (ap (λ (y : BayView). y.stage) c.count_look-rank.ensures.told.view)

pub returns-then-top-le-BOTTOM-clause-acts : goal.returns-then-top-le-BOTTOM-clause-acts
returns-then-top-le-BOTTOM-clause-acts c = elim c.load-top.ensures.told [
  | inl e ↦ absurd (omega (arith, e.0, c.if-top-le-BOTTOM.true))
  | inr e ↦ saw_none _ _ _ _ _ _ c.count_look-rank.ensures.told _ e.1 e.2
]

pub see-item-requires-clause-room : goal.see-item-requires-clause-room
see-item-requires-clause-room c =
    ap (λ (i : Insider (Unit {0}) BayView). i.opening.room) c.load-top.ensures.same
    ∙ (ap (λ (i : Insider (Unit {0}) BayView). i.opening.room) c.count_look-rank.ensures.same ∙ c.requires.ready.room_is)

pub see-item-requires-clause-stage : goal.see-item-requires-clause-stage
see-item-requires-clause-stage c = elim c.load-top.ensures.told [
  | inl e ↦ ap (λ (y : BayView). y.stage) e.2
  | inr e ↦ absurd (omega (arith, e.0, c.if-top-le-BOTTOM.false))
]

pub see-item-requires-clause-few : goal.see-item-requires-clause-few
see-item-requires-clause-few c =
    let layout = ap (λ (x : BayUse). x.layout) (sym c.usage.ensures) ∙ sym c.layout-layout.ensures in
    let blocks = ap (λ (x : BayUse). x.blocks) (sym c.usage-2.ensures) ∙ sym c.blocks-blocks.ensures.value in
    let most : most_in c.args.rooms.now.usage.layout c.args.rooms.now.usage.blocks ≡ most_in c.layout-layout.result c.blocks-blocks.result =
    ap (λ l. most_in l c.args.rooms.now.usage.blocks) layout ∙ ap (λ b. most_in c.layout-layout.result b) blocks in
    elim c.load-top.ensures.told [
      | inl e ↦ omega (arith, e.0, e.1, most)
      | inr e ↦ absurd (omega (arith, e.0, c.if-top-le-BOTTOM.false))
    ]

pub returns-clause-acts : goal.returns-clause-acts
returns-clause-acts c = elim c.load-top.ensures.told [
  | inl e ↦ saw_item _ _ _ _ _ _ c.count_look-rank.ensures.told _ _ _ _ e.2 c.see-item.ensures.sees
  | inr e ↦ absurd (omega (arith, e.0, c.if-top-le-BOTTOM.false))
]
