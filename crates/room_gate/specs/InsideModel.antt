-- A caller that is inside, by its fields.
use Rattle.std.specs.Prelude.{◌≡◌, ℕ, ◌<◌, Some}
use Rattle.room_core.specs.declared.phases.Phase.TheVariants as phases
use Rattle.room_rule.specs.Use.{Meaning}
use Rattle.room_rule.specs.Told.{held_in, Carries}
use Rattle.room_rule.specs.Openings.{latest, IsAdmitted}
use Rattle.room_gate.specs.Shows.{Insider}
use Rattle.room_gate.specs.PassModel.{seen_of, IsOf}
use Rattle.room_gate.specs.declared.inside.Inside.TheInside.{Inside}

-- the opening by which it is inside is the latest that it has seen
abbrev pub insider_of : {X S V : Type 0} → Inside X V S → Insider S V
insider_of i = record {
  caller = seen_of i.seat i.who i.draws i.limit;
  ticket = i.ticket;
  opening = latest i.seat.me.0.seen;
  held = held_in i.seat.me.1;
}

-- what holds of each caller inside
pub record IsInside (rooms : ℕ) {X S V : Type 0} (M : Meaning X S V) (i : Inside X V S) : Type 0 where
  pub of : IsOf i.seat i.who i.draws i.limit
  pub phase : i.seat.me.0.phase ≡ phases.Inside i.room i.ticket (Some i.first) i.turn i.to
  pub carries : Carries (M.keeps i.seat.me.0.user) i.seat.me.1
  pub first : i.seat.me.0.first ≡ Some i.first
  pub room : (latest i.seat.me.0.seen).room ≡ i.room
  pub turn : (latest i.seat.me.0.seen).turn ≡ i.turn
  pub to : (latest i.seat.me.0.seen).to ≡ i.to
  pub exists : i.room < rooms
  pub admitted : IsAdmitted rooms i.ticket i.first i.seat.me.0.seen (latest i.seat.me.0.seen)
