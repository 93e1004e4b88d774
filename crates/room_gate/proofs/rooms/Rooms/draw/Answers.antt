use Rattle.std.proofs.Common.{◌≡◌, ◌∙◌, ℕ, ◌+◌, ◌-◌, ◌%◌, ◌^◌, ◌<◌, ap, sym, subst, arith, mod-eq_of_lt}
use mathlib.Core.Option.{none}
use Rattle.atomic_table.specs.Table.{step}
use Rattle.room_core.specs.declared.acts.Act.TheVariants.{Draw}
use Rattle.room_core.specs.Moves.{drawing_move}
use Rattle.room_rule.specs.View.{moved}
use Rattle.room_rule.proofs.Events.{allows_event}
use Rattle.room_rule.proofs.Entering.{draws}
use Rattle.room_gate.specs.Rows.{drew}
use Rattle.room_gate.proofs.rooms.Rooms.draw.Goals as goal

pub fetch_add-old-requires : goal.fetch_add-old-requires
fetch_add-old-requires g c =
    let M = g.U.RoomUse.meaning in let m = g.U.RoomUse.ROOMS in let seat = c.pass.inside.seat in
    let table = c.self.inside.table.shared in let room = c.args.room in
    let of = c.pass.invariant.of in let place = c.wait_place.result in
    let slots = table.table_id.slots in
    let usage : c.args.self.now.usage ≡ table.key.usage = ap (λ s. s.usage) (sym c.self.view_is)
    ∙ ap (λ k. k.usage) (sym c.self.invariant.key) in
    let user : c.args.pass.user ≡ seat.me.0.user = ap (λ p. p.user) (sym c.pass.view_is) in
    let back : room ≡ place - 1 = omega arith in
    let more : seat.me.0.draws < 2 ^ 48 =
    (let d = of.draws in let l = of.small in let f = c.if-pass.false in
    let made = ap (λ p. p.draws) c.pass.view_is in
    let may = ap (λ p. p.limit) c.pass.view_is in omega arith) in (
      ap (λ p. p.site) c.pass.view_is ∙ c.requires.own ∙ ap (λ s. s.site) (sym c.self.view_is),
      (let wide = c.self.invariant.words in let exists = c.requires.room in omega arith),
      allows_event M m table.key slots seat.id seat.me place (1 + room) c.wait_place.ensures
          (λ n. (n + 1) % 18446744073709551616) (drew (step slots place 1 0 none) seat.me)
          (Draw room)
          (draws M m table.key slots seat.id seat.me room (λ n. (n + 1) % 18446744073709551616)
          (drew (step slots place 1 0 none) seat.me) of.role c.requires.room c.pass.invariant.phase
          more
          (subst (λ (z : _ × _). M.may_enter z.0 z.1) (λ i. (usage i, user i)) c.requires.may)
          (λ n h. mod-eq_of_lt h)
          (λ n h. (
            h,
            ap (λ (z : ℕ).
                (moved seat.me.0 (Draw z) (drawing_move z) n seat.me.0.seen, seat.me.1)) back,
          ))),
    )
