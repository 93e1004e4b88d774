-- A seat by its fields.
use Rattle.std.specs.Prelude.{◌≡◌, []}
use Rattle.atomic_table.specs.declared.shared.Seat.{Seat}
use Rattle.mark_words.specs.Shows.{Claimant}
use Rattle.mark_words.specs.declared.views.Known.{Known}
use Rattle.mark_words.specs.declared.seats.ClaimSeat.TheInside.{Inside}

-- what a seat of the table shows
abbrev pub shown : {S : Type 0} → Seat S Known → Claimant
shown seat = record {
  site = seat.table_id;
  number = seat.me.0.number;
  won = seat.me.0.won;
  found = seat.me.0.found;
  old = seat.me.0.old;
}

-- what the token shows
abbrev pub claimant_of : Inside → Claimant
claimant_of c = shown c.seat

-- it has one part, and holds no slot
pub record IsSeated (c : Inside) : Type 0 where
  pub part : c.seat.me.0.parts ≡ 1
  pub no_slot : c.seat.me.1 ≡ []
