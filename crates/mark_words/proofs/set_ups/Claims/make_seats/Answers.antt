use Rattle.std.proofs.Common.{rules, ℕ, ◌+◌, ◌∙◌, ap, sym, arith}
use Rattle.mark_words.specs.SeatModel.{shown}
use Rattle.mark_words.proofs.Steps.{hires}
use Rattle.mark_words.proofs.Making.{no_seats, seats_more, hired_is_new}
use Rattle.mark_words.proofs.set_ups.Claims.make_seats.Goals as goal

pub split_seat-seat-requires : goal.split_seat-seat-requires
split_seat-seat-requires c =
    let inv = c.loop-made.invariant in let table = c.self.inside.table.shared in
    let maker = c.loop-made.maker in let one = c.loop-made-test.true in
    let seats = ap (λ s. s.seats) c.self.view_is in let parts = inv.parts in (
      inv.same ∙ ap (λ s. s.site) (sym c.self.view_is),
      (let wide = c.self.invariant.words in omega arith),
      hires table.key maker.id maker.me.0 (omega arith) inv.none_won,
    )

pub loop-made-preserved : goal.loop-made-preserved
loop-made-preserved c =
    let inv = c.loop-made.invariant in let e = c.split_seat-seat.ensures in
    let made : ℕ = c.loop-made.made in let seat = c.split_seat-seat.result in
    let site = c.args.self.now.site in
    let new = hired_is_new seat c.loop-made.maker.me.0 site made (e.3 ∙ inv.same) e.4 inv.number in
    let parts = inv.parts in let one = c.loop-made-test.true in
    let seats = ap (λ s. s.seats) c.self.view_is in
    let after = ap (λ m. m.0.parts) e.2 in
    record {
      same = e.0 ∙ inv.same;
      number = ap (λ m. m.0.number) e.2 ∙ ap (λ n. n + 1) inv.number;
      parts = (omega arith);
      none_won = ap (λ m. m.0.won) e.2 ∙ inv.none_won;
      seats = seats_more site made c.loop-made.seats.items c.push.new.self.items (shown seat)
          c.in_ok-push.ensures.items new inv.seats;
    }

pub loop-made-init : goal.loop-made-init
loop-made-init c = record {
  same = c.requires.own;
  number = c.requires.maker.0;
  parts = (let e = c.requires.maker.1 in omega arith);
  none_won = c.requires.maker.2;
  seats = no_seats c.args.self.now.site c.new-seats.result.items (search rules);
}
