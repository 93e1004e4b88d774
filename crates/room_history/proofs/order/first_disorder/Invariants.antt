use Rattle.bay_core.specs.Legal.{OrderedBelow}
use Rattle.room_history.proofs.order.first_disorder.Given as goal

abbrev pub invariant-loop-i : goal.invariant-loop-i
invariant-loop-i l = OrderedBelow l.entries l.i
