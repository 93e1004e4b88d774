-- What is left of a box that was closed.
use Rattle.std.specs.Prelude.{◌≡◌, ℕ, List, [], ◌∷◌, length}
use Rattle.room_rule.specs.Use.{IsAt}
use Rattle.room_gate.specs.Shows.{Caller}
use Rattle.drop_box.specs.declared.uses.Visit.{Visit}
use Rattle.drop_box.specs.Box.{rings_of}

-- the turnstile shows 0, and the bell how often the callers of the passes rang; each has one view,
-- at its number
pub record IsLeftOver (passes : List (Caller Visit)) (words : List ℕ) : Type 0 where
  pub views : List Visit
  pub crowd : length views ≡ length passes
  pub each : (i : ℕ) (p : Caller Visit) → IsAt passes i p → IsAt views p.who p.user
  pub shown : words ≡ 0 ∷ rings_of views ∷ []
