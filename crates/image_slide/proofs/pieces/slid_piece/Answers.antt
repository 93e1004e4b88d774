use Rattle.std.proofs.Common.{ap, arith, length}
use Rattle.image_core.specs.Object.{Fits, naming_at}
use Rattle.image_slide.specs.LiveWords.{AreNames}
use Rattle.image_slide.proofs.Pieced.{in_piece_all, in_piece_few}
use Rattle.image_slide.proofs.Renaming.{heads_fit, heads_names}
use Rattle.image_slide.proofs.pieces.slid_piece.Goals as goal

pub words_of-count-requires-clause-fit : goal.words_of-count-requires-clause-fit
words_of-count-requires-clause-fit c =
    let heap = c.args.image.now in let lawful = c.heads.ensures.lawful in
    rw (c.format-format.ensures.format, c.words-words.ensures.words, c.in_piece-heads.ensures, c.heads.ensures.heads)
    (in_piece_all (Fits heap.format heap.words) heap.heads c.args.piece (heads_fit heap lawful))

pub words_of-count-requires-clause-few : goal.words_of-count-requires-clause-few
words_of-count-requires-clause-few c =
    omega (
      arith,
      ap length c.in_piece-heads.ensures,
      in_piece_few c.heads.result.now c.args.piece,
      ap length c.heads.ensures.heads,
      c.heads.ensures.lawful.few_objects,
    )

pub moved_words-requires-clause-fit : goal.moved_words-requires-clause-fit
moved_words-requires-clause-fit c =
    let heap = c.args.image.now in let lawful = c.heads.ensures.lawful in
    rw (c.format-format.ensures.format, c.words-words.ensures.words, c.in_piece-heads.ensures, c.heads.ensures.heads)
    (in_piece_all (Fits heap.format heap.words) heap.heads c.args.piece (heads_fit heap lawful))

pub moved_words-requires-clause-names : goal.moved_words-requires-clause-names
moved_words-requires-clause-names c =
    let heap = c.args.image.now in let lawful = c.heads.ensures.lawful in let ranks = c.args.ranks.now in
    rw (c.format-format.ensures.format, c.words-words.ensures.words, c.in_piece-heads.ensures, c.heads.ensures.heads)
    (in_piece_all (λ head. AreNames ranks (naming_at heap.format heap.words head)) heap.heads c.args.piece (heads_names heap lawful ranks c.requires.ranks))
