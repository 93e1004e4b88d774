use Rattle.std.proofs.Common.{◌∙◌, ap, sym, arith}
use Rattle.mark_words.proofs.Steps.{joins}
use Rattle.mark_words.proofs.set_ups.Claims.take_in.Goals as goal

pub join_seat-requires : goal.join_seat-requires
join_seat-requires c =
    let seat = c.args.seat.now in let other = c.other.inside.seat in
    let table = c.self.inside.table.shared in
    let own = ap (λ s. s.site) (sym c.self.view_is) in (
      c.requires.0 ∙ own,
      ap (λ p. p.site) c.other.view_is ∙ c.requires.1 ∙ own,
      c.other.invariant.no_slot,
      (let wide = c.self.invariant.words in omega arith),
      joins table.key seat.id seat.me.0 other.id other.me.0,
    )
