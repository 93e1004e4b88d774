use Rattle.std.proofs.Common.{◌+◌, ◌%◌, ◌^◌, arith}
use Rattle.room_gate.proofs.Owing.{of_user}
use Rattle.room_gate.proofs.rooms.Rooms.add_as.Goals as goal

pub fetch_add-requires : goal.fetch_add-requires
fetch_add-requires g c =
    of_user g.U.RoomUse.meaning g.U.RoomUse.ROOMS c.self.inside c.self.invariant c.args.self.now c.self.view_is c.args.seat.now c.requires.own c.args.word c.requires.word
    c.user_place.result (omega arith) (λ n. (n + c.args.by) % 2 ^ 64) (g.B.Tells.tells c.args.seat.now.me) c.requires.step
