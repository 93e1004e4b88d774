use Rattle.std.proofs.Common.{◌++◌, ℕ, inl, inr, ap, sym, ◌∙◌, subst, arith, length, append_assoc}
use Rattle.std.specs.List.{flat_map, sum_by, All}
use Rattle.std.specs.Iterator.Adapters.{zip_first, zip_second}
use Rattle.std.specs.Slice.Iter.{iter_rest}
use Rattle.std.proofs.lemmas.List.{append-nil, length-append}
use Rattle.std.proofs.lemmas.List.Elements.{All-head, All-tail}
use Rattle.std.proofs.lemmas.List.Sums.{sum_by-cons}
use Rattle.image_core.specs.Object.{Fits, size_at, naming_at}
use Rattle.image_slide.specs.Slide.{kept}
use Rattle.image_slide.specs.LiveWords.{AreNames, moved_by}
use Rattle.image_slide.proofs.Kept.{kept_end, kept_next, kept_past}
use Rattle.image_slide.proofs.Renaming.{length-moved_by}
use Rattle.image_slide.proofs.moves.moved_words.Goals as goal

pub loop-head-preserved-then-marked : goal.loop-head-preserved-then-marked
loop-head-preserved-then-marked c =
    let inv = c.loop-head.invariant in let steps = c.in-Some.ensures.steps in let head : ℕ = c.in-Some.head.now in
    let f = moved_by c.args.format c.args.words.now c.args.ranks.now in let size = size_at c.args.format c.args.words.now in
    let out = c.loop-head.out.items in
    let heads = iter_rest (zip_first c.next.new.self) in
    let rest = kept heads (iter_rest (zip_second c.next.new.self)) in
    let next = kept_next head c.in-Some.marked.now _ heads _ _ steps.0 steps.1 c.if-marked.true in
    let fit = subst (λ l. All (Fits c.args.format c.args.words.now) l) steps.0 inv.fit in
    let names = subst (λ l. All (λ h. AreNames c.args.ranks.now (naming_at c.args.format c.args.words.now h)) l) steps.0 inv.names in
    record {
      items =
          ap (λ l. l ++ flat_map f rest) c.push_moved.ensures.items
          ∙ (append_assoc out (f head) (flat_map f rest) ∙ (ap (λ l. out ++ flat_map f l) (sym next) ∙ inv.items));
      room = omega (
        arith,
        inv.room,
        ap (sum_by size) next,
        sum_by-cons size head rest,
        ap length c.push_moved.ensures.items,
        length-append out (f head),
        length-moved_by c.args.format c.args.words.now c.args.ranks.now head (All-head (Fits c.args.format c.args.words.now) head heads fit),
        c.push_moved.ensures.capacity,
        c.loop-head.out.ok.0,
        c.push_moved.new.out.ok.0,
      );
      fit = All-tail (Fits c.args.format c.args.words.now) head heads fit;
      names = All-tail (λ h. AreNames c.args.ranks.now (naming_at c.args.format c.args.words.now h)) head heads names;
    }

pub loop-head-preserved : goal.loop-head-preserved
loop-head-preserved c =
    let inv = c.loop-head.invariant in let steps = c.in-Some.ensures.steps in let head : ℕ = c.in-Some.head.now in
    let f = moved_by c.args.format c.args.words.now c.args.ranks.now in
    let heads = iter_rest (zip_first c.next.new.self) in
    let past = kept_past head c.in-Some.marked.now _ heads _ _ steps.0 steps.1 c.if-marked.false in
    let fit = subst (λ l. All (Fits c.args.format c.args.words.now) l) steps.0 inv.fit in
    let names = subst (λ l. All (λ h. AreNames c.args.ranks.now (naming_at c.args.format c.args.words.now h)) l) steps.0 inv.names in
    record {
      items = ap (λ l. c.loop-head.out.items ++ flat_map f l) (sym past) ∙ inv.items;
      room = omega (arith, inv.room, ap (sum_by (size_at c.args.format c.args.words.now)) past);
      fit = All-tail (Fits c.args.format c.args.words.now) head heads fit;
      names = All-tail (λ h. AreNames c.args.ranks.now (naming_at c.args.format c.args.words.now h)) head heads names;
    }

pub returns : goal.returns
returns c =
    let f = moved_by c.args.format c.args.words.now c.args.ranks.now in
    let end = kept_end (iter_rest (zip_first c.loop-head.head-iterator)) (iter_rest (zip_second c.loop-head.head-iterator))
    (elim c.in-None.ensures.steps [ inl heads ↦ inl heads.1.0 | inr marks ↦ inr marks.1.0 ]) in
    sym (append-nil c.loop-head.out.items) ∙ (ap (λ l. c.loop-head.out.items ++ flat_map f l) (sym end) ∙ c.loop-head.invariant.items)
