use Rattle.std.proofs.Common.{◌≡◌, ◌∙◌, ◌+◌, ◌*◌, ◌%◌, Some, ap, sym, subst, arith, mod-eq_of_lt}
use Rattle.room_core.specs.declared.acts.Act.TheVariants.{Leave}
use Rattle.room_rule.specs.Told.{Seated, left_by}
use Rattle.room_rule.proofs.Leaving.{leaves}
use Rattle.room_gate.proofs.Making.{none_carried}
use Rattle.room_gate.proofs.Owing.{of_act}
use Rattle.room_gate.proofs.LeavingSteps.{depart_goes}
use Rattle.room_gate.proofs.rooms.Rooms.depart.Goals as goal

pub fetch_add-requires : goal.fetch_add-requires
fetch_add-requires g c =
    let M = g.U.RoomUse.meaning in let m = g.U.RoomUse.ROOMS in
    let seat = c.args.seat.now in let table = c.self.inside.table.shared in let room = c.args.room in
    let usage : c.args.self.now.usage ≡ table.key.usage = ap (λ s. s.usage) (sym c.self.view_is)
    ∙ ap (λ k. k.usage) (sym c.self.invariant.key) in
    of_act M m c.self.inside c.self.invariant c.args.self.now c.self.view_is seat c.requires.own
    c.done_place.result (1 + 2 * m + room) (omega arith) (omega (arith, c.requires.room)) (λ n. (n + 1) % 18446744073709551616) (λ n after. left_by seat.me n after) Leave
    (leaves M m table.key g.met.U.RoomUse.laws table.table_id.slots seat.id seat.me room c.args.ticket
    c.args.turn c.args.to (Some c.args.first) (λ n. (n + 1) % 18446744073709551616)
    c.requires.role c.requires.phase
    (subst (λ x. M.may_leave x seat.me.0.user) usage c.requires.may)
    (λ n h. mod-eq_of_lt h))

pub returns : goal.returns
returns g c =
    let t = depart_goes c.args.seat.now c.fetch_add.new.seat c.fetch_add.result c.args.room
    c.args.ticket c.args.turn c.args.to c.args.first c.fetch_add.ensures.0 c.fetch_add.ensures.2
    c.requires.phase in
    let M = g.U.RoomUse.meaning in let seat = c.args.seat.now in
    let none = g.met.U.RoomUse.laws.slots.leaves c.args.self.now.usage seat.me.0.user
    c.requires.may in
    record {
      goes = t.0;
      small = t.1;
      no_slot = ap (λ (z : Seated _ _). z.1) t.0.1
          ∙ none_carried (M.keeps seat.me.0.user) seat.me.1 none c.requires.carries;
    }
