use Rattle.std.proofs.Common.{◌≡◌, ◌∙◌, ◌+◌, None, ap, sym, arith}
use Rattle.room_rule.proofs.Leaving.{opens_out}
use Rattle.room_gate.proofs.LeavingSteps.{open_out_goes}
use Rattle.room_gate.proofs.Owing.{of_store}
use Rattle.room_gate.proofs.rooms.Rooms.open_out.Goals as goal

pub store-requires : goal.store-requires
store-requires g c =
    of_store g.U.RoomUse.meaning g.U.RoomUse.ROOMS c.self.inside c.self.invariant c.args.self.now c.self.view_is c.args.seat.now c.requires.own
    c.args.to c.grant_place.result (1 + g.U.RoomUse.ROOMS + c.args.chosen) (omega arith) (omega (arith, c.requires.room))
    (opens_out _ _ _ g.met.U.RoomUse.laws _ _ c.args.seat.now.me c.args.chosen c.args.turn c.args.to c.args.to None c.requires.role c.requires.room c.requires.phase)

pub returns : goal.returns
returns g c =
    open_out_goes g.U.RoomUse.meaning g.U.RoomUse.ROOMS c.args.seat.now c.store.new.seat c.args.to
    c.store.ensures.0 c.store.ensures.2 c.args.chosen c.args.turn c.args.to
    c.requires.phase
