use Rattle.std.proofs.Common.{ℕ, List, sym, ap, ◌∙◌}
use Rattle.std.specs.List.{flat_map, range_with_len}
use Rattle.std.proofs.lemmas.List.{take_all}
use Rattle.work_crew.proofs.Counts.{flat-map}
use Rattle.image_slide.proofs.joins.joined.Goals as goal

pub returns : goal.returns
returns c words_of have =
    c.loop-place.invariant
    ∙ (ap (λ l. flat_map (λ place. place.items) l) (take_all c.loop-place.place-index _ c.loop-place-test.false ∙ c.as_slice-place-items.ensures.value)
    ∙ (sym (flat-map (λ (l : List ℕ). l) (λ place. place.items) c.in_ok-places.places.items)
    ∙ (ap (flat_map (λ (l : List ℕ). l)) (c.in_ok-places.ensures words_of have)
    ∙ flat-map (λ (l : List ℕ). l) words_of (range_with_len 0 c.args.pieces))))
