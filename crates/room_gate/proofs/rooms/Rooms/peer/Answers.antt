use Rattle.std.proofs.Common.{◌≡◌, ◌∙◌, ◌+◌, ap, sym, arith}
use Rattle.room_rule.proofs.Leaving.{peers}
use Rattle.room_gate.proofs.LeavingSteps.{peer_goes}
use Rattle.room_gate.proofs.Owing.{of_load}
use Rattle.room_gate.proofs.rooms.Rooms.peer.Goals as goal

pub load-requires : goal.load-requires
load-requires g c =
    of_load g.U.RoomUse.meaning g.U.RoomUse.ROOMS c.self.inside c.self.invariant c.args.self.now c.self.view_is c.args.seat.now c.requires.own
    c.grant_place.result (1 + g.U.RoomUse.ROOMS + c.args.scanned) (omega arith) (omega (arith, c.requires.room))
    (peers _ _ _ _ _ c.args.seat.now.me c.args.room c.args.turn c.args.scanned c.args.drawn c.requires.role c.requires.phase)

pub returns : goal.returns
returns g c =
    peer_goes g.U.RoomUse.meaning g.U.RoomUse.ROOMS c.args.seat.now c.load.new.seat c.load.result
    c.load.ensures.0 c.load.ensures.2 c.args.room c.args.turn c.args.scanned c.args.drawn
    c.requires.phase
