use Rattle.std.proofs.Common.{◌≡◌, ◌∙◌, ◌+◌, ◌%◌, ◌<◌, ap, sym, subst, arith}
use Rattle.room_rule.specs.Use.{RestsOn}
use Rattle.room_rule.proofs.Leaving.{ends}
use Rattle.room_gate.proofs.Owing.{of_load}
use Rattle.room_gate.proofs.LeavingSteps.{end_goes}
use Rattle.room_gate.proofs.rooms.Rooms.end_exit.Goals as goal

pub load-requires : goal.load-requires
load-requires g c =
    let M = g.U.RoomUse.meaning in let m = g.U.RoomUse.ROOMS in
    let seat = c.args.seat.now in let table = c.self.inside.table.shared in
    let room = c.args.room in let next = c.args.next in
    let next_is = c.requires.next in let exists = c.requires.room in
    let below : (room + 1) % m < m = omega arith in
    let usage : c.args.self.now.usage ≡ table.key.usage = ap (λ s. s.usage) (sym c.self.view_is)
    ∙ ap (λ k. k.usage) (sym c.self.invariant.key) in
    of_load M m c.self.inside c.self.invariant c.args.self.now c.self.view_is seat c.requires.own
    c.wait_place.result (1 + next) c.wait_place.ensures (omega arith)
    (ends M m table.key g.met.U.RoomUse.laws table.table_id.slots seat.id seat.me room c.args.turn next
    c.requires.role (omega arith) c.requires.phase next_is
    (subst (λ x. RestsOn M x seat.me.0.kept seat.me.0.user) usage c.requires.rests))

pub returns : goal.returns
returns g c =
    end_goes g.U.RoomUse.meaning g.U.RoomUse.ROOMS c.args.seat.now c.load.new.seat c.load.result
    c.load.ensures.0 c.load.ensures.2 c.args.room c.args.turn c.args.next c.requires.next
    c.requires.phase
