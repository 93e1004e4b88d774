use Rattle.std.proofs.Common.{◌≡◌, take}
use Rattle.std.specs.List.{fold}
use Rattle.image_reader.specs.Folding.{with_word}
use Rattle.image_reader.proofs.folding.fold_words.Given as goal

abbrev pub invariant-loop-word : goal.invariant-loop-word
invariant-loop-word l = l.folded ≡ fold with_word l.number (take l.word-index l.words)
