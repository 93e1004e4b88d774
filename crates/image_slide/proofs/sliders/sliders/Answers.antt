use Rattle.std.proofs.Common.{ℕ, List, length, eqb, inl, inr, sym, ap, subst, ◌∙◌, arith}
use Rattle.std.proofs.lemmas.List.{length_push}
use Rattle.room_rule.specs.Use.{IsAt}
use Rattle.room_rule.proofs.Lists.{at_end}
use Rattle.image_slide.specs.Sliding.{Sliding, Begins}
use Rattle.image_slide.proofs.sliders.sliders.Goals as goal

pub loop-worker-preserved : goal.loop-worker-preserved
loop-worker-preserved c =
    let inv = c.loop-worker.invariant in let works = c.loop-worker.works.items in
    let work = c.in_ok-new.field-0 in let pushed = c.in_ok-push.ensures.items in
    let heap = c.args.image.now in let live = c.args.marks.now in let ranks = c.args.ranks.now in
    record {
      long = omega (arith, inv.long, ap length pushed, length_push works work);
      each = λ i m at. elim (at_end works work m i (subst (λ (l : List Sliding). IsAt l i m) pushed at)) [
        | inl old ↦ inv.each i m old
        | inr one ↦ subst (λ (n : ℕ). Begins heap live ranks (eqb n 0) m) (sym (one.0 ∙ inv.long))
            (subst (λ (z : Sliding). Begins heap live ranks (eqb c.loop-worker.worker 0) z) one.1 c.in_ok-new.ensures)
      ];
    }
