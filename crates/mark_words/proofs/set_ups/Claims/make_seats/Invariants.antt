use Rattle.std.proofs.Common.{◌≡◌, ◌+◌, []}
use Rattle.mark_words.specs.Making.{AreSeats}
use Rattle.mark_words.proofs.set_ups.Claims.make_seats.Given as goal

-- the seats so far are made, and the maker has the parts of the others
abbrev pub invariant-loop-made : goal.invariant-loop-made
invariant-loop-made l = record {
  same : l.maker.table_id ≡ l.self.site;
  number : l.maker.me.0.number ≡ l.made;
  parts : l.maker.me.0.parts + l.made ≡ l.self.seats;
  none_won : l.maker.me.0.won ≡ [];
  seats : AreSeats l.self.site l.made l.seats.items;
}
