use Rattle.std.proofs.Common.{◌≡◌, sym, ap, length, ◌∙◌}
use Rattle.image_slide.specs.Slide.{kept}
use Rattle.image_slide.specs.LiveWords.{AreNewPlaces, moved_by}
use Rattle.image_slide.specs.Pieces.{pieces_of, piece_by}
use Rattle.std.specs.List.{flat_map, range_with_len}
use Rattle.bay_core.specs.Times.{times}
use Rattle.image_slide.proofs.Pieced.{by_pieces, enough}
use Rattle.image_slide.proofs.Order.{InOrder-kept}
use Rattle.image_slide.proofs.Renaming.{AreNames-lawful}
use Rattle.image_slide.proofs.crew.moved_with.Goals as goal

pub new_places-requires-clause-order : goal.new_places-requires-clause-order
new_places-requires-clause-order g c =
    rw (c.format.ensures.format, c.words.ensures.words, c.heads.ensures.heads)
    (InOrder-kept _ _ _ _ c.heads.ensures.lawful.fill)

pub joined-requires : goal.joined-requires
joined-requires g c p =
    let many = c.pieces_of-pieces.ensures.value ∙ ap pieces_of c.objects.ensures.count in
    c.in_ok-parts.ensures.once p ∙ ap (λ n. times p (range_with_len 0 n)) (sym many)

pub new_names-requires : goal.new_names-requires
new_names-requires g c =
    let each = rw c.words.ensures.words at c.in_ok-new.ensures.ranks.each in
    rw c.roots.ensures.roots
    (AreNames-lawful c.args.image.now c.in_ok-new.new.ranks c.heads.ensures.lawful each c.args.image.now.roots c.heads.ensures.lawful.roots)

pub returns : goal.returns
returns g c =
    let new : AreNewPlaces c.args.image.now.format c.args.image.now.words (kept c.args.image.now.heads c.args.marks.now) c.in_ok-new.new =
    rw (c.format.ensures.format, c.words.ensures.words, c.heads.ensures.heads) at c.in_ok-new.ensures in
    let heap = c.args.image.now in let ranks = c.in_ok-new.new.ranks in
    let F = piece_by heap c.args.marks.now ranks in
    let many = c.pieces_of-pieces.ensures.value ∙ ap pieces_of c.objects.ensures.count in
    let words : c.in_ok-words.words.items ≡ flat_map (moved_by heap.format heap.words ranks) (kept heap.heads c.args.marks.now) =
    c.in_ok-words.ensures F c.in_ok-parts.ensures.slid
    ∙ (ap (λ n. flat_map F (range_with_len 0 n)) many
    ∙ sym (by_pieces (moved_by heap.format heap.words ranks) heap.heads c.args.marks.now (pieces_of (length heap.heads)) (enough (length heap.heads)))) in
    record {
      lawful = c.heads.ensures.lawful;
      ranks = c.in_ok-new.new.ranks;
      are_live = new.ranks;
      words = words;
      roots = rw c.roots.ensures.roots at c.in_ok-roots.ensures;
      heads = new.heads;
    }
