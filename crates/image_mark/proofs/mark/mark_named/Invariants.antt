use Rattle.std.proofs.Common.{take}
use Rattle.image_mark.specs.Waiting.{MarksNamed}
use Rattle.image_mark.proofs.mark.mark_named.Given as goal

abbrev pub invariant-loop-word : goal.invariant-loop-word
invariant-loop-word l = MarksNamed (take l.word-index l.words) l.initial.marks l.marks l.initial.waiting.items l.waiting.items
