use Rattle.room_gate.specs.GoingIn.{StillWaits}
use Rattle.room_gate.proofs.rooms.Rooms.poll_on.Given as goal

abbrev pub invariant-loop : goal.invariant-loop
invariant-loop g l =
    (goal.iterator-loop g).can_next l.iterator' × (goal.iterator-loop g).is_finite l.iterator'
    × StillWaits l.fn.waiting l.waiting
