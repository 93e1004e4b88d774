use Rattle.std.proofs.Common.{◌≡◌, ◌+◌, ℕ, List, Bool, inl, inr, ap, sym, ◌∙◌, subst, arith, length, drop, map, vec_len, rules}
use Rattle.std.specs.List.{sum_by}
use Rattle.std.specs.Iterator.Adapters.{zip_first, zip_second}
use Rattle.std.specs.Slice.Iter.{iter_rest}
use Rattle.bit_sets.specs.Run.{with_run}
use Rattle.image_core.specs.Object.{size_at}
use Rattle.image_slide.specs.Slide.{kept, new_place}
use Rattle.image_slide.specs.LiveWords.{AreLiveWords}
use Rattle.image_slide.proofs.Kept.{kept_end, kept_next, kept_past}
use Rattle.image_slide.proofs.Placing.{Placing, none_placed, next_placed, all_placed}
use Rattle.image_slide.proofs.places.new_places.Goals as goal

pub bounds-words-at : goal.bounds-words-at
bounds-words-at c =
    let inv = c.loop-head.invariant in let steps = c.in-Some.ensures.steps in let head : ℕ = c.in-Some.head.now in
    let one = next_placed _ _ _ _ _ _ _ c.requires.order inv.placing head _
    (inv.rest ∙ kept_next head c.in-Some.marked.now _ _ _ _ steps.0 steps.1 c.if-marked.true) in
    omega (arith, one.here)

pub loop-head-init : goal.loop-head-init
loop-head-init c = record {
  rest = search rules;
  room = search rules;
  placing = none_placed _ _ _ _ _ _ c.in_ok-places.ensures.len (search rules) c.in_ok-places.ensures.items;
}

pub insert_run-requires-clause-within : goal.insert_run-requires-clause-within
insert_run-requires-clause-within c =
    let inv = c.loop-head.invariant in let steps = c.in-Some.ensures.steps in let head : ℕ = c.in-Some.head.now in
    let one = next_placed _ _ _ _ _ _ _ c.requires.order inv.placing head _
    (inv.rest ∙ kept_next head c.in-Some.marked.now _ _ _ _ steps.0 steps.1 c.if-marked.true) in
    omega (arith, one.here, inv.placing.marked.each, c.size-size.ensures.value)

pub overflow_add-next : goal.overflow_add-next
overflow_add-next c =
    let inv = c.loop-head.invariant in let steps = c.in-Some.ensures.steps in let head : ℕ = c.in-Some.head.now in
    let one = next_placed _ _ _ _ _ _ _ c.requires.order inv.placing head _
    (inv.rest ∙ kept_next head c.in-Some.marked.now _ _ _ _ steps.0 steps.1 c.if-marked.true) in
    omega (arith, one.fits, c.size-size.ensures.value, c.requires.few)

pub loop-head-preserved-then-marked : goal.loop-head-preserved-then-marked
loop-head-preserved-then-marked c =
    let inv = c.loop-head.invariant in let steps = c.in-Some.ensures.steps in let head : ℕ = c.in-Some.head.now in
    let live = kept c.args.heads.now c.args.marks.now in
    let one = next_placed _ _ _ _ _ _ _ c.requires.order inv.placing head _
    (inv.rest ∙ kept_next head c.in-Some.marked.now _ _ _ _ steps.0 steps.1 c.if-marked.true) in
    let is : size_at c.args.format c.args.words.now head ≡ c.size-size.result = omega (arith, c.size-size.ensures.value) in
    let run : with_run c.loop-head.live head (head + size_at c.args.format c.args.words.now head) ≡ c.insert_run.new.self =
    ap (λ n. with_run c.loop-head.live head (head + n)) is ∙ sym c.insert_run.ensures in
    record {
      rest = ap (λ n. drop n live) c.push_reserved.ensures.len ∙ one.left;
      room = omega (arith, inv.room, ap length steps.0, c.push_reserved.ensures.len, c.push_reserved.ensures.capacity);
      placing = subst (λ (z : ℕ × ℕ × List Bool × List ℕ).
          Placing c.args.format c.args.words.now live z.0 z.1 z.2 z.3)
          (λ k. (sym c.push_reserved.ensures.len k, c.loop-head.next + is k, run k, sym c.push_reserved.ensures.items k)) one.more;
    }

pub loop-head-preserved : goal.loop-head-preserved
loop-head-preserved c =
    let inv = c.loop-head.invariant in let steps = c.in-Some.ensures.steps in let head : ℕ = c.in-Some.head.now in
    record {
      rest = inv.rest ∙ kept_past head c.in-Some.marked.now _ _ _ _ steps.0 steps.1 c.if-marked.false;
      room = omega (arith, inv.room, ap length steps.0);
      placing = inv.placing;
    }

pub from_bits-requires : goal.from_bits-requires
from_bits-requires c = omega (arith, c.loop-head.invariant.placing.marked.each, c.requires.few)

pub returns : goal.returns
returns c =
    let inv = c.loop-head.invariant in let p = inv.placing in
    let live = kept c.args.heads.now c.args.marks.now in
    let end = kept_end (iter_rest (zip_first c.loop-head.head-iterator)) (iter_rest (zip_second c.loop-head.head-iterator))
    (elim c.in-None.ensures.steps [ inl heads ↦ inl heads.1.0 | inr marks ↦ inr marks.1.0 ]) in
    let all = all_placed live (vec_len c.loop-head.places) (inv.rest ∙ end) in
    let marked : AreLiveWords c.args.format c.args.words.now live c.loop-head.live =
    subst (λ l. AreLiveWords c.args.format c.args.words.now l c.loop-head.live) all p.marked in
    record {
      ranks = rw c.in_ok-from_bits.ensures marked;
      heads = p.places_are ∙ ap (map (new_place c.args.format c.args.words.now live)) all;
      size = p.next_is ∙ ap (sum_by (size_at c.args.format c.args.words.now)) all;
    }
