use Rattle.std.proofs.Common.{◌≡◌, ℕ, suc, ◌==◌, Bool, length, refl, sym, ap, ◌∙◌, inl, inr, subst, arith}
use Rattle.std.proofs.lemmas.List.{length_push}
use Rattle.room_rule.specs.Use.{IsAt}
use Rattle.mark_words.specs.Shows.{Claimant}
use Rattle.work_crew.proofs.Placing.{at_push}
use Rattle.image_mark.specs.Marking.{Begins}
use Rattle.image_mark.specs.Crews.{is_first, BeginsAt}
use Rattle.image_mark.proofs.Together.{first_is}
use Rattle.image_mark.proofs.crews.markers.Goals as goal

pub new-requires-clause-own : goal.new-requires-clause-own
new-requires-clause-own c =
    (c.loop-seat.invariant.rest 0 c.in-Some.seat (subst (λ l. IsAt l 0 c.in-Some.seat) (sym c.in-Some.ensures.steps.0) refl)).own

pub loop-seat-preserved : goal.loop-seat-preserved
loop-seat-preserved c =
    let inv = c.loop-seat.invariant in let markers = c.loop-seat.markers.items in
    let pushed = c.in_ok-push-in-Ok.ensures.items in let steps = c.in-Some.ensures.steps.0 in
    let seat : Claimant = c.in-Some.seat in
    let new = inv.rest 0 seat (subst (λ l. IsAt l 0 seat) (sym steps) refl) in
    let first : c.is_empty-first.result ≡ is_first (length markers) =
    c.is_empty-first.ensures ∙ (ap (λ (n : ℕ). n == 0) c.loop-seat.markers.ok.0 ∙ first_is (length markers)) in
    let begins : BeginsAt c.args.image.now c.args.claims.now (length markers) c.in-Ok.marker = record {
      seat = seat;
      new = new.won;
      begins = subst (λ (b : Bool). Begins c.args.image.now c.args.claims.now b seat c.in-Ok.marker) first c.in-Ok.ensures.begins;
    } in
    record {
      many = omega (arith, inv.many, ap length pushed, length_push markers c.in-Ok.marker, length_push c.loop-seat.yielded seat);
      each = λ i m at. elim (at_push markers c.in-Ok.marker m i (subst (λ l. IsAt l i m) pushed at)) [
        | inl old ↦ inv.each i m old
        | inr one ↦ subst (λ z. BeginsAt c.args.image.now c.args.claims.now i z) one.1
            (subst (λ n. BeginsAt c.args.image.now c.args.claims.now n c.in-Ok.marker) (sym one.0) begins)
      ];
      rest = λ i s at. inv.rest (suc i) s (subst (λ l. IsAt l (suc i) s) (sym steps) at);
    }
