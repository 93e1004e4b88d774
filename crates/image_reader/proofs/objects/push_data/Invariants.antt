use Rattle.std.proofs.Common.{◌≡◌, ◌++◌}
use Rattle.image_reader.specs.Draws.{after, draws}
use Rattle.image_reader.proofs.objects.push_data.Given as goal

abbrev pub invariant-loop-word : goal.invariant-loop-word
invariant-loop-word l = record {
  number : l.source.number ≡ after l.fn.source.number l._word;
  words : l.out.items ≡ l.fn.out.items ++ draws l.fn.source.number 0 l._word;
}
