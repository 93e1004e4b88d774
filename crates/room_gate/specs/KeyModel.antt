-- The holder of a key, by its fields.
use Rattle.std.specs.Prelude.{◌≡◌, ℕ, ◌<◌, ◌≤◌, ◌^◌, []}
use Rattle.room_core.specs.declared.phases.Phase.TheVariants.{Exiting}
use Rattle.room_rule.specs.Openings.{latest}
use Rattle.room_gate.specs.Shows.{KeyHolder}
use Rattle.room_gate.specs.PassModel.{seen_of, IsOf}
use Rattle.room_gate.specs.declared.keys.Key.TheInside.{Inside}

-- the opening that it ended is the latest that it has seen
abbrev pub holder_of : {X S V : Type 0} → Inside X V S → KeyHolder V
holder_of k = record {
  caller = seen_of k.seat k.who k.draws k.limit;
  opening = latest k.seat.me.0.seen;
  words = k.seat.me.0.kept;
}

-- what holds of each key
pub record IsKey (rooms : ℕ) {X S V : Type 0} (k : Inside X V S) : Type 0 where
  pub of : IsOf k.seat k.who k.draws k.limit
  pub phase : k.seat.me.0.phase ≡ Exiting k.room k.turn
  pub no_slot : k.seat.me.1 ≡ []
  pub room : (latest k.seat.me.0.seen).room ≡ k.room
  pub turn : (latest k.seat.me.0.seen).turn ≡ k.turn
  pub exists : k.room < rooms
  pub small : k.turn ≤ 2 ^ 54
