-- Claims by their fields.
use Rattle.std.specs.Prelude.{◌≡◌, ◌+◌, ◌*◌, ◌/◌, ◌^◌, ◌≤◌}
use Rattle.mark_words.specs.Shows.{Site}
use Rattle.mark_words.specs.declared.set_ups.Claims.TheInside.{Inside}

-- which set-up it is
abbrev pub site_of : Inside → Site
site_of c = record { site = c.table.shared.table_id; bits = c.plan.bits; seats = c.plan.seats }

-- the table has a word for each 64 bits and more, 64 of them for no bit, and no slot
pub record IsSetUp (c : Inside) : Type 0 where
  pub key : c.table.shared.key ≡ c.plan
  pub words : c.table.shared.table_id.words ≡ c.plan.bits / 64 / 64 * 64 + 128
  pub slots : c.table.shared.table_id.slots ≡ 0
  pub few : c.plan.bits ≤ 2 ^ 20
