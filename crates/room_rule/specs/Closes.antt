-- What a table that was closed shows.
use Rattle.std.specs.Prelude.{◌≡◌, ℕ, ◌+◌, ◌*◌, Option, List, ◌++◌, map, length}
use mathlib.Core.Option.{some}
use Rattle.room_core.specs.Gate.{Shut}
use Rattle.room_rule.specs.Use.{IsAt, Content, Meaning}
use Rattle.room_rule.specs.declared.rule.Plan.{Plan}
use Rattle.room_rule.specs.declared.views.Ended.{Ended}

-- no two of them are of one caller
abbrev pub AreApart : {V : Type 0} → List (Ended V) → Type 0
AreApart {V} ended = (i j : ℕ) (e f : Ended V)
    → IsAt ended i e
    → IsAt ended j f
    → e.who ≡ f.who
    → i ≡ j

-- the words are those of the rooms and then those of the use, each slot is at home with its contents,
-- and words and slots are lawful with the gate shut for the last views of the callers
pub record Ends {X S V : Type 0} (M : Meaning X S V) (m : ℕ) (k : Plan X) (ended : List (Ended V))
    (ws : List ℕ) (slots : List (Option S)) : Type 0 where
  pub rooms : List ℕ
  pub content : Content S V
  pub words : ws ≡ rooms ++ content.words
  pub long : length rooms ≡ 1 + 3 * m
  pub sized : length content.words ≡ M.words k.usage
  pub at_home : content.slots ≡ map some slots
  pub slotted : length slots ≡ M.slots k.usage
  pub crowd : length content.views ≡ k.callers
  pub each : (i : ℕ) (e : Ended V) → IsAt ended i e → IsAt content.views e.who e.user
  pub turn : ℕ
  pub lawful : M.lawful k.usage content (Shut turn)
