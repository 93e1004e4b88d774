-- Two insiders that compare what they have seen.
use Rattle.std.specs.Prelude.{◌≡◌, ℕ, ◌+◌, ◌-◌, Option, length}
use Rattle.room_core.specs.declared.items.Opening.{Opening}
use Rattle.room_core.specs.declared.phases.Phase.TheVariants.{Inside}
use Rattle.room_rule.specs.Use.{IsAt}
use Rattle.room_rule.specs.Told.{Seated}
use Rattle.room_rule.specs.declared.views.Role.TheVariants.{Pass}
use Rattle.room_rule.specs.declared.views.Shown.{Shown}

-- the view is that of an insider, which has seen an opening for each turn up to its own, and that
-- one last
pub record IsIn {V : Type 0} (v : Shown V) (turn : ℕ) : Type 0 where
  pub role : v.role ≡ Pass
  pub room : ℕ
  pub ticket : ℕ
  pub to : ℕ
  pub first : Option ℕ
  pub phase : v.phase ≡ Inside room ticket first turn to
  pub long : length v.seen ≡ turn
  pub opening : Opening
  pub turn_is : opening.turn ≡ turn
  pub last : IsAt v.seen (turn - 1) opening

-- the seat loaded the active word once, and may know of more; all else is as it was
abbrev pub met : {S V : Type 0} → Seated S V → Seated S V → Type 0
met me me' = me' ≡ (
  record me.0 { known = me'.0.known; active = me'.0.active; loads = me.0.loads + 1 },
  me.1,
)
