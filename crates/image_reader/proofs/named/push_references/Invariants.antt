use Rattle.std.proofs.Common.{◌≡◌, ◌++◌, map}
use Rattle.image_reader.specs.Draws.{after, draws}
use Rattle.image_reader.specs.Made.{reference}
use Rattle.image_reader.proofs.named.push_references.Given as goal

abbrev pub invariant-loop-word : goal.invariant-loop-word
invariant-loop-word l = record {
  number : l.source.number ≡ after l.fn.source.number l._word;
  words : l.out.items ≡ l.fn.out.items ++ map (reference l.heads) (draws l.fn.source.number 0 l._word);
}
