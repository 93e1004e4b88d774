use Rattle.std.proofs.Common.{◌≡◌, ◌++◌, take, vec_capacity}
use Rattle.image_slide.proofs.moves.push_plain.Given as goal

abbrev pub invariant-loop-word : goal.invariant-loop-word
invariant-loop-word l = record {
  items : l.out.items ≡ l.initial.out.items ++ take l.word-index l.plain;
  capacity : vec_capacity l.out ≡ vec_capacity l.initial.out;
}
