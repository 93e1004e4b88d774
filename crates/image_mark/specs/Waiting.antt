-- Marks by place, while some of the marked places wait to be gone through.
use Rattle.std.specs.Prelude.{◌≡◌, ℕ, ◌+◌, ◌↔◌, ◌⊎◌, List, [], ◌∷◌, length, slice_index_or, Contains, Bool, true, false, IsTrue}

-- the place is marked
abbrev pub IsMarkedAt : List Bool → ℕ → Type 0
IsMarkedAt marks place = IsTrue (slice_index_or marks place false)

-- how many places are not marked
abbrev pub unmarked : List Bool → ℕ
unmarked [] = 0
unmarked (true ∷ marks) = unmarked marks
unmarked (false ∷ marks) = 1 + unmarked marks

-- how many places may still be gone through
abbrev pub left : List Bool → List ℕ → ℕ
left marks waiting = unmarked marks + length waiting

-- what these words name is marked besides, and what is marked first waits
pub record MarksNamed (words : List ℕ) (marks marks_now : List Bool) (waiting waiting_now : List ℕ) : Type 0 where
  pub each : length marks_now ≡ length marks
  pub marked : (place : ℕ) → IsMarkedAt marks_now place ↔ (IsMarkedAt marks place ⊎ Contains words (1 + place))
  pub waits : (place : ℕ) → Contains waiting_now place → Contains waiting place ⊎ Contains words (1 + place)
  pub waited : (place : ℕ) → Contains waiting place → Contains waiting_now place
  pub fresh : (place : ℕ) → IsMarkedAt marks_now place → IsMarkedAt marks place ⊎ Contains waiting_now place
  pub same_left : left marks_now waiting_now ≡ left marks waiting
