use Rattle.std.proofs.Common.{refl, arith}
use Rattle.room_rule.specs.Looking.{looked_by}
use Rattle.room_rule.proofs.Looking.{looks_again}
use Rattle.room_gate.proofs.Owing.{of_no_act}
use Rattle.room_gate.proofs.rooms.Rooms.look_again.Goals as goal

pub load-requires : goal.load-requires
load-requires g c =
    of_no_act g.U.RoomUse.meaning g.U.RoomUse.ROOMS c.self.inside c.self.invariant c.args.self.now c.self.view_is c.args.seat.now c.requires.own
    0 0 refl (omega arith) (λ n. n) (λ n after. looked_by c.args.seat.now.me n after) (looks_again _ _ _ _ _ c.args.seat.now.me c.requires.role)
