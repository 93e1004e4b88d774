-- What one step of a caller leaves of its seat.
use Rattle.std.specs.Prelude.{◌≡◌, ℕ, ◌+◌, ◌-◌, ◌^◌, ◌<◌, ◌==◌, nat_le, if◌then◌else◌, Option, Some, None, List}
use Rattle.atomic_table.specs.Table.{Step}
use Rattle.atomic_table.specs.declared.shared.Seat.{Seat}
use Rattle.room_core.specs.declared.acts.Act.TheVariants.{Draw}
use Rattle.room_core.specs.declared.items.Opening.{Opening}
use Rattle.room_core.specs.declared.phases.Phase.TheVariants as phases
use Rattle.room_core.specs.Moves.{drawing_move}
use Rattle.room_core.specs.Active.{turn_of, code_of, seen}
use Rattle.room_rule.specs.View.{moved}
use Rattle.room_rule.specs.Told.{Seated}
use Rattle.room_rule.specs.declared.views.Shown.{Shown}

module _ {S V : Type 0} where
  -- the seat of the same table, with this view
  abbrev pub Goes : Seat (Option S) (Shown V) → Seat (Option S) (Shown V) → Shown V → Type 0
  Goes before after v = (after.table_id ≡ before.table_id) × (after.me ≡ (v, before.me.1))

  -- a draw, of the room whose word was stepped on
  abbrev pub drew : Step (Option S) → Seated S V → ℕ → Seated S V → Type 0
  drew st me n me' =
      let room = st.word - 1 in
      (n < 2 ^ 54) × (me' ≡ (moved me.0 (Draw room) (drawing_move room) n me.0.seen, me.1))

module _ {V : Type 0} where
  -- the grant was loaded, and the ticket is let in or not
  abbrev pub looked : ℕ → ℕ → Option ℕ → ℕ → Shown V → Shown V
  looked room ticket first n v = record v {
    phase = if nat_le ticket n then phases.Turning room ticket first n else phases.Glancing room
        ticket first;
    grant = n;
    found = None;
  }

  -- the active word was loaded, and is idle or not
  abbrev pub glanced : ℕ → ℕ → Option ℕ → ℕ → Shown V → Shown V
  glanced room ticket first n v = record v {
    phase = if code_of n == 0 then phases.Seizing room ticket
        (seen first n) n else phases.Looking room ticket (seen first n);
    active = n;
    loads = v.loads + 1;
    first = seen v.first n;
  }

  -- the idle word was exchanged, or was another by then
  abbrev pub seized : ℕ → ℕ → Option ℕ → ℕ → ℕ → Shown V → Shown V
  seized room ticket first idle n v = record v {
    phase = if n == idle then phases.Counting room ticket first
        (turn_of idle + 1) else phases.Looking room ticket first;
    found = Some n;
  }

  -- the tickets drawn were loaded
  abbrev pub counted : ℕ → ℕ → Option ℕ → ℕ → ℕ → Shown V → Shown V
  counted room ticket first turn n v =
      record v { phase = phases.Admitting room ticket first turn n }

  -- the grant was stored, and the caller is inside
  abbrev pub admitted : ℕ → ℕ → Option ℕ → ℕ → ℕ → List Opening → Shown V → Shown V
  admitted room ticket first turn to openings v = record v {
    phase = phases.Inside room ticket first turn to;
    seen = openings;
  }

  -- the active word was loaded, and the caller is inside
  abbrev pub turned_in : ℕ → ℕ → Option ℕ → ℕ → ℕ → List Opening → Shown V → Shown V
  turned_in room ticket first to n openings v = record v {
    phase = phases.Inside room ticket (seen first n) (turn_of n) to;
    active = n;
    loads = v.loads + 1;
    first = seen v.first n;
    seen = openings;
  }
