-- What a tally of stays means.
use Rattle.std.specs.Prelude.{◌≡◌, ℕ, ◌+◌, ◌^◌, ◌<◌, ◌≤◌, None, false, [], ◌∷◌, length, slice_index, slice_set}
use Rattle.std.specs.List.{sum_by}
use Rattle.room_core.specs.Gate.{Gate, Held}
use Rattle.room_rule.specs.Use.{IsAt, Content, UserStep, Meaning}
use Rattle.stay_tally.specs.declared.uses.Tally.{Tally}
use Rattle.stay_tally.specs.declared.uses.Stays.{Stays}

-- how many stays in room r the caller counted
abbrev pub counted_in : ℕ → Stays → ℕ
counted_in r v = slice_index v.counted r

-- a caller counted no stay twice: of each room it counted at most as many as there were turns
pub record IsCapped (v : Stays) : Type 0 where
  pub wide : length v.counted ≡ 4
  pub capped : (r : ℕ) → r < 4 → counted_in r v ≤ v.last
  pub small : v.last ≤ 2 ^ 54

-- each word is the sum of what the callers counted
pub record Tallies (s : Content (Unit {0}) Stays) : Type 0 where
  pub wide : length s.words ≡ 4
  pub few : length s.views ≤ 64
  pub sums : (r : ℕ) → r < 4 → slice_index s.words r ≡ sum_by (counted_in r) s.views
  pub each : (c : ℕ) (v : Stays) → IsAt s.views c v → IsCapped v
  pub bare : s.slots ≡ []

-- a stay in room r is counted in turn t
abbrev pub counts : ℕ → ℕ → Stays → Stays
counts r t v = record { counted = slice_set v.counted r (counted_in r v + 1); last = t }

-- the room is held in turn t
abbrev pub IsHeldIn : Gate → ℕ → Type 0
IsHeldIn (Held room turn ins) t = turn ≡ t
IsHeldIn _ t = ⊥

-- once a turn an insider adds 1 to the word of its room
pub record Counts (room : ℕ) (s : UserStep (Unit {0}) Stays) : Type 0 where
  pub turn : ℕ
  pub held : IsHeldIn s.gate turn
  pub small : turn ≤ 2 ^ 54
  pub view : Stays
  pub at : IsAt s.before.views s.who view
  pub later : view.last < turn
  pub word : s.word ≡ room
  pub value : s.value ≡ slice_index s.before.words room + 1
  pub after : s.after ≡ counts room turn view

-- who has counted no stay
abbrev pub newcomer : Stays
newcomer = record { counted = 0 ∷ 0 ∷ 0 ∷ 0 ∷ []; last = 0 }

-- the meaning: four words, no slots, and steps that count a stay in the room that the caller is in
abbrev pub tallied : Meaning Tally (Unit {0}) Stays
tallied = record {
  words = λ x. 4;
  slots = λ x. 0;
  start = λ x callers word. 0;
  starts = λ who. newcomer;
  lawful = λ x s gate. Tallies s;
  may_step = λ x room s. Counts room s;
  may_exit = λ x room s. ⊥;
  may_touch = λ x s. ⊥;
  is_touch = λ x word. false;
  may_enter = λ x v. Unit {0};
  may_leave = λ x v. Unit {0};
  rested = λ x words v. Unit {0};
  last = λ v. v.last;
  keeps = λ v. None;
}
