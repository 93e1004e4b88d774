use Rattle.std.proofs.Common.{◌≡◌, ◌∙◌, refl, ap, sym, arith}
use Rattle.room_core.specs.Active.{pack}
use Rattle.room_rule.proofs.Leaving.{passes_idle}
use Rattle.room_gate.proofs.LeavingSteps.{pass_idle_goes}
use Rattle.room_gate.proofs.Owing.{of_store}
use Rattle.room_gate.proofs.rooms.Rooms.pass_idle.Goals as goal

pub store-requires : goal.store-requires
store-requires g c =
    of_store g.U.RoomUse.meaning g.U.RoomUse.ROOMS c.self.inside c.self.invariant c.args.self.now c.self.view_is c.args.seat.now c.requires.own
    c.pack-idle.result 0 0 refl (omega arith)
    (passes_idle _ _ _ _ _ c.args.seat.now.me c.args.turn c.pack-idle.result c.pack-idle.result c.requires.role c.requires.phase c.pack-idle.ensures)

pub returns : goal.returns
returns g c =
    pass_idle_goes g.U.RoomUse.meaning g.U.RoomUse.ROOMS c.args.seat.now c.store.new.seat c.pack-idle.result
    c.store.ensures.0 c.store.ensures.2 c.args.turn
    c.requires.phase
