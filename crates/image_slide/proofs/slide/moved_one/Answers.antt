use Rattle.std.proofs.Common.{arith}
use Rattle.image_slide.specs.Slide.{kept}
use Rattle.image_slide.specs.LiveWords.{AreNewPlaces}
use Rattle.image_slide.proofs.Order.{InOrder-kept}
use Rattle.image_slide.proofs.Renaming.{heads_fit, heads_names, AreNames-lawful}
use Rattle.image_slide.proofs.slide.moved_one.Goals as goal

pub new_places-requires-clause-order : goal.new_places-requires-clause-order
new_places-requires-clause-order c =
    rw (c.format-format.ensures.format, c.words-words.ensures.words, c.heads-heads.ensures.heads)
    (InOrder-kept _ _ _ _ c.heads-heads.ensures.lawful.fill)

pub moved_words-requires-clause-fit : goal.moved_words-requires-clause-fit
moved_words-requires-clause-fit c =
    rw (c.format-format.ensures.format, c.words-words.ensures.words, c.heads-heads.ensures.heads) (heads_fit c.args.image.now c.heads-heads.ensures.lawful)

pub moved_words-requires-clause-names : goal.moved_words-requires-clause-names
moved_words-requires-clause-names c =
    let each = rw c.words-words.ensures.words at c.in_ok-new.ensures.ranks.each in
    rw (c.format-format.ensures.format, c.words-words.ensures.words, c.heads-heads.ensures.heads)
    (heads_names c.args.image.now c.heads-heads.ensures.lawful c.in_ok-new.new.ranks each)

pub moved_words-requires-clause-count : goal.moved_words-requires-clause-count
moved_words-requires-clause-count c = omega (arith, c.in_ok-new.ensures.size)

pub new_names-requires : goal.new_names-requires
new_names-requires c =
    let each = rw c.words-words.ensures.words at c.in_ok-new.ensures.ranks.each in
    rw c.roots.ensures.roots
    (AreNames-lawful c.args.image.now c.in_ok-new.new.ranks c.heads-heads.ensures.lawful each c.args.image.now.roots c.heads-heads.ensures.lawful.roots)

pub returns : goal.returns
returns c =
    let new : AreNewPlaces c.args.image.now.format c.args.image.now.words (kept c.args.image.now.heads c.args.marks.now) c.in_ok-new.new =
    rw (c.format-format.ensures.format, c.words-words.ensures.words, c.heads-heads.ensures.heads) at c.in_ok-new.ensures in
    record {
      lawful = c.heads-heads.ensures.lawful;
      ranks = c.in_ok-new.new.ranks;
      are_live = new.ranks;
      words = rw (c.format-format.ensures.format, c.words-words.ensures.words, c.heads-heads.ensures.heads) at c.in_ok-moved.ensures;
      roots = rw c.roots.ensures.roots at c.in_ok-roots.ensures;
      heads = new.heads;
    }
