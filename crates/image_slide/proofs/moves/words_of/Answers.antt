use Rattle.std.proofs.Common.{ℕ, inl, inr, ap, subst, arith, length}
use Rattle.std.specs.List.{sum_by, All}
use Rattle.std.specs.Iterator.Adapters.{zip_first, zip_second}
use Rattle.std.specs.Slice.Iter.{iter_rest}
use Rattle.std.proofs.lemmas.List.Elements.{All-tail}
use Rattle.std.proofs.lemmas.List.Sums.{sum_by-cons}
use Rattle.image_core.specs.Object.{Fits, size_at}
use Rattle.image_slide.specs.Slide.{kept}
use Rattle.image_slide.proofs.Kept.{kept_end, kept_next, kept_past}
use Rattle.image_slide.proofs.moves.words_of.Goals as goal

pub overflow_add-count : goal.overflow_add-count
overflow_add-count c =
    let inv = c.loop-head.invariant in
    omega (arith, inv.few, ap length c.in-Some.ensures.steps.0, c.size-count.ensures.small, c.requires.few)

pub loop-head-preserved-then-marked : goal.loop-head-preserved-then-marked
loop-head-preserved-then-marked c =
    let inv = c.loop-head.invariant in let steps = c.in-Some.ensures.steps in let head : ℕ = c.in-Some.head.now in
    let size = size_at c.args.format c.args.words.now in
    let heads = iter_rest (zip_first c.next.new.self) in
    let rest = kept heads (iter_rest (zip_second c.next.new.self)) in
    let next = kept_next head c.in-Some.marked.now _ heads _ _ steps.0 steps.1 c.if-marked.true in
    let fit = subst (λ l. All (Fits c.args.format c.args.words.now) l) steps.0 inv.fit in
    record {
      sum = omega (arith, inv.sum, ap (sum_by size) next, sum_by-cons size head rest, c.size-count.ensures.value);
      few = omega (arith, inv.few, ap length steps.0, c.size-count.ensures.small);
      fit = All-tail (Fits c.args.format c.args.words.now) head heads fit;
    }

pub loop-head-preserved : goal.loop-head-preserved
loop-head-preserved c =
    let inv = c.loop-head.invariant in let steps = c.in-Some.ensures.steps in let head : ℕ = c.in-Some.head.now in
    let heads = iter_rest (zip_first c.next.new.self) in
    let past = kept_past head c.in-Some.marked.now _ heads _ _ steps.0 steps.1 c.if-marked.false in
    record {
      sum = omega (arith, inv.sum, ap (sum_by (size_at c.args.format c.args.words.now)) past);
      few = omega (arith, inv.few, ap length steps.0);
      fit = All-tail (Fits c.args.format c.args.words.now) head heads (subst (λ l. All (Fits c.args.format c.args.words.now) l) steps.0 inv.fit);
    }

pub returns : goal.returns
returns c =
    let end = kept_end (iter_rest (zip_first c.loop-head.head-iterator)) (iter_rest (zip_second c.loop-head.head-iterator))
    (elim c.in-None.ensures.steps [ inl heads ↦ inl heads.1.0 | inr marks ↦ inr marks.1.0 ]) in
    omega (arith, c.loop-head.invariant.sum, ap (sum_by (size_at c.args.format c.args.words.now)) end)
