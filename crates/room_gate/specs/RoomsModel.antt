-- Rooms by their fields.
use Rattle.std.specs.Prelude.{◌≡◌, ℕ, ◌+◌, ◌*◌, ◌^◌, ◌<◌, ◌≤◌}
use Rattle.room_rule.specs.Use.{Meaning}
use Rattle.room_gate.specs.Shows.{Site}
use Rattle.room_gate.specs.declared.rooms.Rooms.TheInside.{Inside}

-- what a set-up shows
abbrev pub site_of : {X S V : Type 0} → Inside X V S → Site X
site_of r = record {
  site = r.table.shared.table_id;
  usage = r.plan.usage;
  callers =
      r.plan.callers;
}

-- what holds of each set-up
pub record IsSetUp (rooms : ℕ) {X S V : Type 0} (M : Meaning X S V) (r : Inside X V S) : Type 0 where
  pub key : r.table.shared.key ≡ r.plan
  pub words : r.table.shared.table_id.words ≡ 1 + 3 * rooms + M.words r.plan.usage
  pub slots : r.table.shared.table_id.slots ≡ M.slots r.plan.usage
  pub few : rooms ≤ 7
  pub wide : r.table.shared.table_id.words < 2 ^ 60
