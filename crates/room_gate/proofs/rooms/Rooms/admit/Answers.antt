use Rattle.std.proofs.Common.{◌≡◌, ◌∙◌, ◌+◌, Some, refl, ap, sym, arith}
use Rattle.room_rule.proofs.Entering.{admits}
use Rattle.room_gate.proofs.Making.{carries_none}
use Rattle.room_gate.proofs.Stepping.{admit_enters}
use Rattle.room_gate.proofs.Owing.{of_store}
use Rattle.room_gate.proofs.rooms.Rooms.admit.Goals as goal

pub store-requires : goal.store-requires
store-requires g c =
    of_store g.U.RoomUse.meaning g.U.RoomUse.ROOMS c.self.inside c.self.invariant c.args.self.now c.self.view_is c.args.seat.now c.requires.own
    c.args.to c.grant_place.result (1 + g.U.RoomUse.ROOMS + c.args.room) (omega arith) (omega (arith, c.requires.room))
    (admits _ _ _ g.met.U.RoomUse.laws _ _ c.args.seat.now.me c.args.room c.args.ticket c.args.turn c.args.to c.args.to (Some c.args.first) c.requires.role c.requires.room c.requires.ticket c.requires.phase)

pub returns : goal.returns
returns g c =
    let e = admit_enters g.U.RoomUse.meaning g.U.RoomUse.ROOMS c.args.seat.now c.store.new.seat
    c.args.to c.store.ensures.0 c.store.ensures.2 c.args.room c.args.ticket c.args.turn
    c.args.to (Some c.args.first) c.requires.ticket c.requires.phase in
    record {
      goes = e.goes;
      comes_in = e.comes_in c.args.first refl;
      in_a_new_turn = e.low;
      no_slot = carries_none (g.U.RoomUse.meaning.keeps c.args.seat.now.me.0.user)
          c.args.seat.now.me.1 e.no_slot c.requires.no_slot;
    }
