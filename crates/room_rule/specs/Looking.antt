-- What an insider finds when it loads the active word.
use Rattle.std.specs.Prelude.{◌≡◌, ℕ, ◌+◌, Option, List, length}
use Rattle.room_core.specs.declared.items.Opening.{Opening}
use Rattle.room_core.specs.declared.phases.Phase.TheVariants.{Inside}
use Rattle.room_core.specs.Active.{turn_of, code_of}
use Rattle.room_rule.specs.Use.{IsAt}
use Rattle.room_rule.specs.Openings.{StartsWith, IsAmong}
use Rattle.room_rule.specs.Told.{Seated}
use Rattle.room_rule.specs.declared.views.Shown.{Shown}

module _ {V : Type 0} where
  -- the view after: one load more of the active word
  abbrev pub looked_again : Shown V → ℕ → Shown V
  looked_again v n = record v { active = n; loads = v.loads + 1 }

  -- The word is that of the room in its turn. So far there were as many openings as turns, and these
  -- are what the caller has seen, and more; what it knows of is among them.
  pub record Finds (v : Shown V) (room turn n : ℕ) : Type 0 where
    pub turn_is : turn_of n ≡ turn
    pub code_is : code_of n ≡ room + 1
    pub openings : List Opening
    pub long : length openings ≡ turn
    pub numbered : (i : ℕ) (o : Opening) → IsAt openings i o → o.turn ≡ i + 1
    pub seen : StartsWith openings v.seen
    pub known : IsAmong openings v.known

  -- the load found n, and an insider finds what is so in its turn
  abbrev pub looked_by : {S : Type 0} → Seated S V → ℕ → Seated S V → Type 0
  looked_by me n me' = (me' ≡ (looked_again me.0 n, me.1))
      × ((room ticket turn to : ℕ) (first : Option ℕ)
      → me.0.phase ≡ Inside room ticket first turn to → Finds me.0 room turn n)
