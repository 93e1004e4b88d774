use Rattle.std.proofs.Common.{arith}
use Rattle.room_gate.proofs.Owing.{of_user}
use Rattle.room_gate.proofs.rooms.Rooms.store_as.Goals as goal

pub store-requires : goal.store-requires
store-requires g c =
    of_user g.U.RoomUse.meaning g.U.RoomUse.ROOMS c.self.inside c.self.invariant c.args.self.now c.self.view_is c.args.seat.now c.requires.own c.args.word c.requires.word
    c.user_place.result (omega arith) (λ _. c.args.value) (λ _. g.B.Tells.tells c.args.seat.now.me c.args.value) c.requires.step
