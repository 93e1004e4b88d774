use Rattle.std.proofs.Common.{suc, ◌-◌, ◌<◌}
use Rattle.room_core.specs.declared.phases.Phase.TheVariants.{Peering}
use Rattle.room_core.proofs.Due.{ahead}
use Rattle.room_gate.specs.Rows.{Goes}
use Rattle.room_gate.specs.LeavingRows.{scanning}
use Rattle.room_gate.proofs.rooms.Rooms.choose.Given as goal

abbrev pub invariant-loop-drawn : goal.invariant-loop-drawn
invariant-loop-drawn g l = record {
  goes : Goes l.initial.seat l.seat (scanning (Peering l.room l.turn l.scanned l.drawn) l.seat.me.0.grant l.seat.me.0.found l.initial.seat.me.0);
  exists : l.scanned < g.U.RoomUse.ROOMS;
}

abbrev pub decreases-loop-drawn : goal.decreases-loop-drawn
decreases-loop-drawn g l = g.U.RoomUse.ROOMS - ahead g.U.RoomUse.ROOMS (suc l.room) l.scanned
