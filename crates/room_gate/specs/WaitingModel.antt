-- A waiting caller by its fields.
use Rattle.std.specs.Prelude.{◌≡◌, ℕ, ◌<◌, []}
use Rattle.room_core.specs.declared.phases.Phase.TheVariants.{Looking}
use Rattle.room_gate.specs.Shows.{Waiter}
use Rattle.room_gate.specs.PassModel.{seen_of, IsOf}
use Rattle.room_gate.specs.declared.waiting.Waiting.TheInside.{Inside}

-- what a waiting caller shows
abbrev pub waiter_of : {X S V : Type 0} → Inside X V S → Waiter V
waiter_of w = record {
  caller = seen_of w.seat w.who w.draws w.limit;
  room = w.room;
  ticket = w.ticket;
  grant = w.grant;
  active = w.active;
  found = w.found;
  known = w.seat.me.0.known;
  phase = w.seat.me.0.phase;
}

-- what holds of each waiting caller
pub record IsWaiting (rooms : ℕ) {X S V : Type 0} (w : Inside X V S) : Type 0 where
  pub of : IsOf w.seat w.who w.draws w.limit
  pub phase : w.seat.me.0.phase ≡ Looking w.room w.ticket w.first
  pub no_slot : w.seat.me.1 ≡ []
  pub first : w.seat.me.0.first ≡ w.first
  pub grant : w.seat.me.0.grant ≡ w.grant
  pub active : w.seat.me.0.active ≡ w.active
  pub found : w.seat.me.0.found ≡ w.found
  pub exists : w.room < rooms
  pub positive : 0 < w.ticket
