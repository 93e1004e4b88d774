use Rattle.std.proofs.Common.{◌∙◌, ap}
use Rattle.room_gate.specs.Shows.{Insider}
use Rattle.bay_rule.specs.declared.views.BayView.{BayView}
use Rattle.bay_rule.proofs.CanPeek.{can_size_top, can_size_head, can_size_tail}
use Rattle.bay_store.proofs.Looking.{saw_sizes}
use Rattle.bay_store.proofs.looks.sizes.Goals as goal

pub load-items-requires-clause-can : goal.load-items-requires-clause-can
load-items-requires-clause-can c =
    can_size_top _ _ _ _ _ (ap (λ (i : Insider (Unit {0}) BayView). i.opening.room) c.count_look-rank.ensures.same ∙ c.requires.ready.room_is)
    (ap (λ (y : BayView). y.stage) c.count_look-rank.ensures.told.view)

pub load-head-requires-clause-can : goal.load-head-requires-clause-can
load-head-requires-clause-can c =
    can_size_head _ _ _ _ _ (ap (λ (i : Insider (Unit {0}) BayView). i.opening.room) (c.load-items.ensures.same) ∙ (ap (λ (i : Insider (Unit {0}) BayView). i.opening.room) c.count_look-rank.ensures.same ∙ c.requires.ready.room_is))
    _ (ap (λ (y : BayView). y.stage) c.load-items.ensures.told.1)

pub load-tail-requires-clause-can : goal.load-tail-requires-clause-can
load-tail-requires-clause-can c =
    can_size_tail _ _ _ _ _ (ap (λ (i : Insider (Unit {0}) BayView). i.opening.room) c.load-head.ensures.same ∙ (ap (λ (i : Insider (Unit {0}) BayView). i.opening.room) c.load-items.ensures.same ∙ (ap (λ (i : Insider (Unit {0}) BayView). i.opening.room) c.count_look-rank.ensures.same ∙ c.requires.ready.room_is)))
    _ _ (ap (λ (y : BayView). y.stage) c.load-head.ensures.told)

pub returns-clause-acts : goal.returns-clause-acts
returns-clause-acts c =
    saw_sizes _ _ _ _ _ _ c.count_look-rank.ensures.told _ _ _ _ _ _ _ c.load-items.ensures.told.1 c.load-head.ensures.told c.load-tail.ensures.told.1 c.load-tail.ensures.told.2
