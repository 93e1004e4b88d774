use Rattle.std.proofs.Common.{◌≡◌, ◌++◌, take, map, vec_capacity}
use Rattle.image_slide.specs.LiveWords.{new_name}
use Rattle.image_slide.proofs.moves.push_names.Given as goal

abbrev pub invariant-loop-word : goal.invariant-loop-word
invariant-loop-word l = record {
  items : l.out.items ≡ l.initial.out.items ++ map (new_name l.ranks) (take l.word-index l.names);
  capacity : vec_capacity l.out ≡ vec_capacity l.initial.out;
}
