use Rattle.std.proofs.Common.{◌∙◌, refl, ap, sym, arith}
use Rattle.room_rule.proofs.Entering.{turns}
use Rattle.room_gate.proofs.Making.{carries_none}
use Rattle.room_gate.proofs.Stepping.{turn_enters}
use Rattle.room_gate.proofs.Owing.{of_load}
use Rattle.room_gate.proofs.rooms.Rooms.turn_in.Goals as goal

pub load-requires : goal.load-requires
load-requires g c =
    of_load g.U.RoomUse.meaning g.U.RoomUse.ROOMS c.self.inside c.self.invariant c.args.self.now c.self.view_is c.args.seat.now c.requires.own
    0 0 refl (omega arith)
    (turns _ _ _ g.met.U.RoomUse.laws _ _ c.args.seat.now.me c.args.room c.args.ticket c.args.to c.args.first c.requires.role c.requires.phase)

pub returns : goal.returns
returns g c =
    let e = turn_enters g.U.RoomUse.meaning g.U.RoomUse.ROOMS c.args.seat.now c.load.new.seat
    c.load.result c.load.ensures.0 c.load.ensures.2 c.args.room c.args.ticket c.args.to
    c.args.first c.requires.phase in
    record {
      goes = e.goes;
      comes_in = e.comes_in;
      in_a_new_turn = e.low;
      no_slot = carries_none (g.U.RoomUse.meaning.keeps c.args.seat.now.me.0.user)
          c.args.seat.now.me.1 e.no_slot c.requires.no_slot;
    }
