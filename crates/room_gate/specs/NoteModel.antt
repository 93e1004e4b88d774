-- A note by its field.
use Rattle.std.specs.Prelude.{◌≡◌, []}
use Rattle.room_rule.specs.declared.views.Role.TheVariants.{Note}
use Rattle.room_gate.specs.Shows.{Notice}
use Rattle.room_gate.specs.declared.notes.Note.TheInside.{Inside}

-- what a note shows
abbrev pub notice_of : {X S V : Type 0} → Inside X V S → Notice
notice_of n = record { site = n.seat.table_id; openings = n.seat.me.0.seen }

-- what holds of each note
pub record IsNote {X S V : Type 0} (n : Inside X V S) : Type 0 where
  pub role : n.seat.me.0.role ≡ Note
  pub no_slot : n.seat.me.1 ≡ []
