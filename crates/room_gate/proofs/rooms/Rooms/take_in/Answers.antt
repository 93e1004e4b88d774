use Rattle.std.proofs.Common.{◌∙◌, ap, sym, arith}
use Rattle.room_rule.proofs.Closing.{keeper_joins}
use Rattle.room_gate.proofs.rooms.Rooms.take_in.Goals as goal

pub join_seat-requires : goal.join_seat-requires
join_seat-requires g c =
    let seat = c.args.seat.now in let other = c.pass.inside.seat in
    let table = c.self.inside.table.shared in
    let own = ap (λ s. s.site) (sym c.self.view_is) in (
      c.requires.own.0 ∙ own,
      ap (λ p. p.site) c.pass.view_is ∙ c.requires.own.1 ∙ own,
      c.pass.invariant.no_slot,
      (let wide = c.self.invariant.words in omega arith),
      keeper_joins g.U.RoomUse.meaning g.U.RoomUse.ROOMS table.key seat.id seat.me.0 other.id
          other.me.0 c.requires.keeper c.pass.invariant.of.role c.pass.invariant.phase,
    )
