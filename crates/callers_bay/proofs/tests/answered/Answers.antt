use Rattle.std.proofs.Common.{ℕ, List, [], ◌∷◌, ◌≡◌, ◌≤◌, length, refl, sym, subst, arith}
use Rattle.atomic_table.proofs.Lists.{at_last}
use Rattle.room_rule.specs.Use.{IsAt}
use Rattle.room_gate.specs.Shows.{Caller, newcomer}
use Rattle.bay_rule.specs.declared.views.BayView.{BayView}
use Rattle.bay_rule.specs.Views.{fresh_view}
use Rattle.callers_bay.proofs.tests.answered.Goals as goal

pub push_in_parts-pass-requires-clause-own : goal.push_in_parts-pass-requires-clause-own
push_in_parts-pass-requires-clause-own g c =
    let rest = c.pop.new.self.items in let pass = c.in-Some.pass in
    let each = c.in_ok-bay.ensures.passes.each (length rest) pass
    (subst (λ (l : List _). IsAt l (length rest) pass) (sym c.in-Some.ensures.items)
    (at_last rest pass (length rest) refl)) in
    rw each refl

pub push_in_parts-pass-requires-clause-share : goal.push_in_parts-pass-requires-clause-share
push_in_parts-pass-requires-clause-share g c =
    let rest = c.pop.new.self.items in let pass = c.in-Some.pass in
    let each = c.in_ok-bay.ensures.passes.each (length rest) pass
    (subst (λ (l : List _). IsAt l (length rest) pass) (sym c.in-Some.ensures.items)
    (at_last rest pass (length rest) refl)) in
    rw each (omega arith)
