use Rattle.std.proofs.Common.{subst}
use Rattle.room_gate.specs.Entering.{IsLetIn}
use Rattle.room_gate.proofs.inside.Inside.turn.Goals as goal

pub returns-clause-let_in : goal.returns-clause-let_in
returns-clause-let_in g c =
    subst (IsLetIn g.U.RoomUse.ROOMS) c.self.view_is
    (c.self.inside.first, c.self.invariant.first, c.self.invariant.admitted)
