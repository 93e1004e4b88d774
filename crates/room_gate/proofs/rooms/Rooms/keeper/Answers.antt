use Rattle.std.proofs.Common.{arith}
use Rattle.room_rule.proofs.Closing.{keeper_enters}
use Rattle.room_gate.proofs.rooms.Rooms.keeper.Goals as goal

pub load_new_seat-requires : goal.load_new_seat-requires
load_new_seat-requires g c =
    let table = c.self.inside.table.shared in (
      (let wide = c.self.invariant.words in omega arith),
      keeper_enters g.U.RoomUse.meaning g.U.RoomUse.ROOMS table.key table.table_id.slots 0,
    )
