use Rattle.std.proofs.Common.{◌∙◌, refl, ap, sym, arith}
use Rattle.room_rule.proofs.Entering.{glances}
use Rattle.room_gate.proofs.Stepping.{glance_goes, glance_small}
use Rattle.room_gate.proofs.Owing.{of_load}
use Rattle.room_gate.proofs.rooms.Rooms.glance.Goals as goal

pub load-requires : goal.load-requires
load-requires g c =
    of_load g.U.RoomUse.meaning g.U.RoomUse.ROOMS c.self.inside c.self.invariant c.args.self.now c.self.view_is c.args.seat.now c.requires.own
    0 0 refl (omega arith)
    (glances _ _ _ _ _ c.args.seat.now.me c.args.room c.args.ticket c.args.first c.requires.role c.requires.phase)

pub returns : goal.returns
returns g c =
    let l = c.load in let room = c.args.room in let ticket = c.args.ticket in let first = c.args.first in record {
      goes = glance_goes g.U.RoomUse.meaning g.U.RoomUse.ROOMS c.args.seat.now l.new.seat l.result l.ensures.0 l.ensures.2 room ticket first c.requires.phase;
      small = glance_small g.U.RoomUse.meaning g.U.RoomUse.ROOMS c.args.seat.now l.new.seat l.result l.ensures.0 l.ensures.2 room ticket first c.requires.phase;
    }
