use Rattle.std.proofs.Common.{◌∷◌, ◌++◌, [], map, sym, ap, ◌∙◌, inl, inr, subst, arith}
use Rattle.std.proofs.lemmas.List.{append-nil, append_assoc, map_push, nil_from_length}
use Rattle.room_rule.specs.Use.{IsAt}
use Rattle.mark_words.specs.Shows.{Claimant}
use Rattle.work_crew.proofs.Placing.{at_push}
use Rattle.image_mark.specs.Marking.{Marking, Holds}
use Rattle.image_mark.proofs.crews.seats_of.Goals as goal

pub loop-marker-preserved : goal.loop-marker-preserved
loop-marker-preserved c =
    let inv = c.loop-marker.invariant in let before = c.loop-marker.yielded in let marker : Marking = c.in-Some.marker in
    record {
      seats = c.in_ok-push.ensures.items
          ∙ (ap (λ l. l ++ c.into_seat.result ∷ []) inv.seats
          ∙ (ap (λ (s : Claimant). map (λ (m : Marking). m.seat) before ++ s ∷ []) c.into_seat.ensures.seat
          ∙ sym (map_push (λ (m : Marking). m.seat) before marker)));
      holds = λ i m at. elim (at_push before marker m i at) [
        | inl old ↦ inv.holds i m old
        | inr one ↦ subst Holds one.1 c.into_seat.ensures.holds
      ];
      rest = append_assoc before (marker ∷ []) _ ∙ (ap (λ l. before ++ l) (sym c.in-Some.ensures.steps.0) ∙ inv.rest);
    }

pub returns-clause-holds : goal.returns-clause-holds
returns-clause-holds c i m at =
    let none = nil_from_length c.loop-marker.marker-iterator.rest.items (omega (arith, c.in-None.ensures.steps.0, c.loop-marker.marker-iterator.rest.ok.0)) in
    let all = sym (append-nil c.loop-marker.yielded) ∙ (ap (λ l. c.loop-marker.yielded ++ l) (sym none) ∙ c.loop-marker.invariant.rest) in
    c.loop-marker.invariant.holds i m (subst (λ l. IsAt l i m) (sym all) at)
