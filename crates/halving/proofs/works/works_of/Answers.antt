use Rattle.std.proofs.Common.{◌≡◌, ℕ, ◌<◌, List, [], ◌∷◌, ◌++◌, length, sym, ap, ◌∙◌, inl, inr, subst, arith}
use Rattle.std.proofs.lemmas.List.{length_push, map-id}
use Rattle.std.specs.Option.{option_to_list}
use Rattle.room_rule.specs.Use.{IsAt}
use Rattle.work_pool.specs.Standing.{Standing}
use Rattle.work_crew.specs.Crews.{IsNew, AreNew}
use Rattle.work_crew.proofs.Placing.{at_push}
use Rattle.halving.proofs.works.works_of.Goals as goal
use Rattle.halving.proofs.works.works_of.Goals.{then-worker-eq0, else-worker-eq0}

-- one work more
more_new : (works now : List Standing) (work : Standing) → now ≡ works ++ work ∷ [] → IsNew work
    → (0 < length works → work.to_give ≡ []) → AreNew works → AreNew now
more_new works now work is new none before = record {
  each = λ i s at. elim (at_push works work s i (subst (λ l. IsAt l i s) is at)) [
    | inl old ↦ before.each i s old
    | inr one ↦ subst IsNew one.1 new
  ];
  none = λ i s at some. elim (at_push works work s i (subst (λ l. IsAt l i s) is at)) [
    | inl old ↦ before.none i s old some
    | inr one ↦ ap (λ (z : Standing). z.to_give) (sym one.1) ∙ none (omega (arith, one.0, some))
  ];
}

pub loop-worker-preserved : goal.loop-worker-preserved
loop-worker-preserved c =
    let inv = c.loop-worker.invariant in let pushed = c.in_ok-push.ensures.items in
    let works = c.loop-worker.works.items in let work : Standing = c.in_ok-new.field-0 in
    let none : 0 < length works → work.to_give ≡ [] = elim c.if-worker-eq0.branch [
      | then-worker-eq0 w ↦ λ some. absurd (omega (arith, some, inv.many, w.if-worker-eq0.true))
      | else-worker-eq0 w ↦ λ some. c.in_ok-new.ensures.first ∙ ap option_to_list w.first-is
    ] in
    record {
      many = omega (arith, inv.many, ap length pushed, length_push works work);
      new = more_new works c.push.new.self.items work pushed c.in_ok-new.ensures.new none inv.new;
    }

pub returns-clause-new : goal.returns-clause-new
returns-clause-new c = subst AreNew (sym (map-id c.loop-worker.works.items)) c.loop-worker.invariant.new
