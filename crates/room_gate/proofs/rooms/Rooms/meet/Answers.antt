use Rattle.room_gate.proofs.Meeting.{is_in}
use Rattle.room_gate.proofs.rooms.Rooms.meet.Goals as goal

pub compare-requires-clause-inside : goal.compare-requires-clause-inside
compare-requires-clause-inside g c =
    let m = g.U.RoomUse.ROOMS in let M = g.U.RoomUse.meaning in (
      (c.one.inside.turn, is_in m M c.one.inside c.one.invariant),
      (c.two.inside.turn, is_in m M c.two.inside c.two.invariant),
    )
