use Rattle.image_mark.specs.Waiting.{left}
use Rattle.image_mark.specs.Ahead.{all_waiting}
use Rattle.image_mark.proofs.Ahead.{Going}
use Rattle.image_mark.proofs.mark.mark_one.Given as goal

abbrev pub invariant-loop-next : goal.invariant-loop-next
invariant-loop-next l = Going l.image l.marks l.waiting.items l.ring

abbrev pub decreases-loop-next : goal.decreases-loop-next
decreases-loop-next l = left l.marks (all_waiting l.waiting.items l.ring)
