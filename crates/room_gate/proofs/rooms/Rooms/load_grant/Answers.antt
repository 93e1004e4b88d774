use Rattle.std.proofs.Common.{◌≡◌, ◌∙◌, ◌+◌, ap, sym, arith}
use Rattle.room_rule.proofs.Entering.{looks}
use Rattle.room_gate.proofs.Stepping.{look_goes, look_told}
use Rattle.room_gate.proofs.Owing.{of_load}
use Rattle.room_gate.proofs.rooms.Rooms.load_grant.Goals as goal

pub load-requires : goal.load-requires
load-requires g c =
    of_load g.U.RoomUse.meaning g.U.RoomUse.ROOMS c.self.inside c.self.invariant c.args.self.now c.self.view_is c.args.seat.now c.requires.own
    c.grant_place.result (1 + g.U.RoomUse.ROOMS + c.args.room) (omega arith) (omega (arith, c.requires.room))
    (looks _ _ _ _ _ c.args.seat.now.me c.args.room c.args.ticket c.args.first c.requires.role c.requires.room c.requires.phase)

pub returns : goal.returns
returns g c =
    let l = c.load in let room = c.args.room in let ticket = c.args.ticket in let first = c.args.first in record {
      goes = look_goes g.U.RoomUse.meaning g.U.RoomUse.ROOMS c.args.seat.now l.new.seat l.result l.ensures.0 l.ensures.2 room ticket first c.requires.phase;
      as_told = look_told g.U.RoomUse.meaning g.U.RoomUse.ROOMS c.args.seat.now l.new.seat l.result l.ensures.0 l.ensures.2 room ticket first c.requires.phase;
    }
