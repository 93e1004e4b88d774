use Rattle.std.proofs.Common.{◌∙◌, ap, sym, arith}
use Rattle.room_rule.proofs.Seats.{learns}
use Rattle.room_gate.proofs.rooms.Rooms.learn.Goals as goal

pub join_seat-requires : goal.join_seat-requires
join_seat-requires g c =
    let seat = c.waiting.inside.seat in let other = c.note.inside.seat in
    let table = c.self.inside.table.shared in
    let own = ap (λ s. s.site) (sym c.self.view_is) in (
      ap (λ w. w.caller.site) c.waiting.view_is ∙ c.requires.own ∙ own,
      ap (λ n. n.site) c.note.view_is ∙ c.requires.note ∙ own,
      c.note.invariant.no_slot,
      (let wide = c.self.invariant.words in omega arith),
      learns g.U.RoomUse.meaning g.U.RoomUse.ROOMS table.key seat.id seat.me.0 other.id other.me.0
          c.waiting.invariant.of.role c.note.invariant.role,
    )
