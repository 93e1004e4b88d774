use Rattle.std.proofs.Common.{◌≡◌}
use Rattle.room_gate.proofs.tests.come_and_go.Given as goal

abbrev pub invariant-loop : goal.invariant-loop
invariant-loop g l = l.pass.site ≡ l.rooms.site
