use Rattle.std.proofs.Common.{◌≡◌, ◌++◌, ◌∷◌, [], List, ℕ, ap, sym, ◌∙◌, arith, length, get_or, map}
use Rattle.image_reader.specs.Draws.{after, draw, draws}
use Rattle.image_reader.specs.Made.{refs, data_words, reference, drawn_before, object_words}
use Rattle.image_reader.proofs.Drawing.{length-draws, length-places, draw_at}
use Rattle.image_reader.proofs.ObjectWords.{objects_more, after_body, object_drawn}
use Rattle.image_reader.proofs.objects.drawn_objects.Goals as goal

pub bounds-shapes-object : goal.bounds-shapes-object
bounds-shapes-object c =
    omega (
      arith,
      ap length (c.as_slice-shapes.ensures.value ∙ c.in_ok-plan.ensures.plan.shapes),
      length-draws c.args.source.now.number 0 c.args.objects,
    )

pub loop-object-preserved : goal.loop-object-preserved
loop-object-preserved c =
    let start : ℕ = c.args.source.now.number in
    let i : ℕ = c.loop-object.object in
    let heads : List ℕ = c.as_slice-heads.result.now in
    let shape : ℕ = get_or c.as_slice-shapes.result.now i 0 in
    let many : length heads ≡ c.args.objects =
    ap length (c.as_slice-heads.ensures.value ∙ c.in_ok-plan.ensures.plan.heads) ∙ length-places start c.args.objects in
    let is : shape ≡ draw start i =
    ap (λ vs. get_or vs i 0) (c.as_slice-shapes.ensures.value ∙ c.in_ok-plan.ensures.plan.shapes)
    ∙ draw_at start c.args.objects i c.loop-object-test.true in
    let at : c.loop-object.source.number ≡ after start (drawn_before start (length heads) i) =
    c.loop-object.invariant.number ∙ ap (λ n. after start (drawn_before start n i)) (sym many) in
    let number : ℕ = c.loop-object.source.number in
    record {
      number = c.in_ok-push_body.ensures.number ∙ after_body start c.args.objects i number shape c.loop-object.invariant.number is;
      words = c.in_ok-push_body.ensures.words
          ∙ ap (λ ws. ws ++ map (reference heads) (draws number 0 (refs shape)) ++ draws number (refs shape) (data_words shape))
          (c.in_ok-push.ensures.items ∙ ap (λ w. c.loop-object.words.items ++ w ∷ []) c.header.ensures)
          ∙ object_drawn start heads c.loop-object.words.items i number shape at is
          ∙ ap (λ ws. ws ++ object_words start heads i) c.loop-object.invariant.words
          ∙ sym (objects_more (object_words start heads) i);
    }

pub returns-clause-number : goal.returns-clause-number
returns-clause-number c =
    let done : c.loop-object.object ≡ c.args.objects = omega arith in
    c.loop-object.invariant.number ∙ ap (λ n. after c.args.source.now.number (drawn_before c.args.source.now.number c.args.objects n)) done
