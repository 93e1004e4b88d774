use Rattle.std.proofs.Common.{◌∙◌, ap, sym, arith}
use Rattle.room_rule.proofs.Seats.{notes}
use Rattle.room_gate.proofs.rooms.Rooms.note.Goals as goal

pub split_seat-seat-requires : goal.split_seat-seat-requires
split_seat-seat-requires g c =
    let seat = c.inside.inside.seat in let table = c.self.inside.table.shared in (
      ap (λ i. i.caller.site) c.inside.view_is ∙ c.requires.own
          ∙ ap (λ s. s.site) (sym c.self.view_is),
      (let wide = c.self.invariant.words in omega arith),
      notes g.U.RoomUse.meaning g.U.RoomUse.ROOMS table.key seat.id seat.me.0
          c.inside.invariant.of.role,
    )
