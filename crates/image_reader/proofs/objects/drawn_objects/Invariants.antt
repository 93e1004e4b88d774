use Rattle.std.proofs.Common.{◌≡◌}
use Rattle.std.specs.List.{range_with_len, flat_map}
use Rattle.image_reader.specs.Draws.{after}
use Rattle.image_reader.specs.Made.{drawn_before, object_words}
use Rattle.image_reader.proofs.objects.drawn_objects.Given as goal

abbrev pub invariant-loop-object : goal.invariant-loop-object
invariant-loop-object l = record {
  number : l.source.number ≡ after l.fn.source.number (drawn_before l.fn.source.number l.objects l.object);
  words : l.words.items ≡ flat_map (object_words l.fn.source.number l.heads) (range_with_len 0 l.object);
}
