-- What a close takes in, and what it gives.
use Rattle.std.specs.Prelude.{◌≡◌, ℕ, Option, List, map, length}
use mathlib.Core.Option.{some}
use Rattle.atomic_table.specs.Seated.{TableId}
use Rattle.room_core.specs.Gate.{Shut}
use Rattle.room_rule.specs.Use.{IsAt, Meaning}
use Rattle.room_rule.specs.declared.views.Ended.{Ended}
use Rattle.room_gate.specs.Shows.{Caller}

-- the passes are those of all callers of the set-up, each once
pub record AreAll {V : Type 0} (site : TableId) (callers : ℕ)
    (passes : List (Caller V)) : Type 0 where
  pub many : length passes ≡ callers
  pub own : (i : ℕ) (p : Caller V) → IsAt passes i p → p.site ≡ site
  pub once : (i j : ℕ) (p q : Caller V)
      → IsAt passes i p
      → IsAt passes j q
      → p.who ≡ q.who
      → i ≡ j

-- a caller's number, and its last user view
abbrev pub last_of : {V : Type 0} → Caller V → Ended V
last_of p = record { who = p.who; user = p.user }

-- The user words and the slots at the end: each slot is at home, and with the last user views of the
-- callers they are lawful with the gate shut.
pub record IsLeft {X S V : Type 0} (M : Meaning X S V) (x : X) (callers : ℕ)
    (ended : List (Ended V)) (words : List ℕ) (slots : List (Option S)) : Type 0 where
  pub sized : length words ≡ M.words x
  pub slotted : length slots ≡ M.slots x
  pub views : List V
  pub crowd : length views ≡ callers
  pub each : (i : ℕ) (e : Ended V) → IsAt ended i e → IsAt views e.who e.user
  pub turn : ℕ
  pub lawful : M.lawful x (record { words = words; slots = map some slots; views = views })
      (Shut turn)
