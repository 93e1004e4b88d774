-- What a set-up makes.
use Rattle.std.specs.Prelude.{◌≡◌, ℕ, ◌+◌, ◌*◌, ◌<◌, List, ◌++◌, length, replicate, slice_index}
use Rattle.atomic_table.specs.Seated.{TableId}
use Rattle.room_rule.specs.Use.{IsAt, Meaning}
use Rattle.room_gate.specs.Shows.{Caller, newcomer}

-- a pass for each caller, in the order of their numbers, that has made no draw
pub record ArePasses {V : Type 0} (site : TableId) (limit : ℕ) (starts : ℕ → V) (callers : ℕ)
    (passes : List (Caller V)) : Type 0 where
  pub long : length passes ≡ callers
  pub each : (i : ℕ) (p : Caller V) → IsAt passes i p → p ≡ newcomer site limit starts i

-- zeros for the words of the rooms, and then the first so many user words
pub record IsLaidOut {X S V : Type 0} (rooms : ℕ) (M : Meaning X S V) (x : X) (callers done : ℕ)
    (words : List ℕ) : Type 0 where
  pub user : List ℕ
  pub is : words ≡ replicate (1 + 3 * rooms) 0 ++ user
  pub long : length user ≡ done
  pub each : (i : ℕ) → i < done → slice_index user i ≡ M.start x callers i
