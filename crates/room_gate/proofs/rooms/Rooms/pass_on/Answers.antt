use Rattle.std.proofs.Common.{◌≡◌, ◌∙◌, ◌+◌, refl, ap, sym, arith}
use Rattle.room_core.specs.Active.{pack}
use Rattle.room_rule.proofs.Leaving.{passes_on}
use Rattle.room_gate.proofs.LeavingSteps.{pass_on_goes}
use Rattle.room_gate.proofs.Owing.{of_store}
use Rattle.room_gate.proofs.rooms.Rooms.pass_on.Goals as goal

pub store-requires : goal.store-requires
store-requires g c =
    of_store g.U.RoomUse.meaning g.U.RoomUse.ROOMS c.self.inside c.self.invariant c.args.self.now c.self.view_is c.args.seat.now c.requires.own
    c.pack-new.result 0 0 refl (omega arith)
    (passes_on _ _ _ _ _ c.args.seat.now.me c.args.turn c.args.chosen c.pack-new.result c.pack-new.result c.requires.role c.requires.phase c.pack-new.ensures)

pub returns : goal.returns
returns g c =
    pass_on_goes g.U.RoomUse.meaning g.U.RoomUse.ROOMS c.args.seat.now c.store.new.seat c.pack-new.result
    c.store.ensures.0 c.store.ensures.2 c.args.turn c.args.chosen
    c.requires.phase
