-- A small use, for tests: one word that counts and one touch word, which caller 0 alone changes.
use Rattle.std.specs.Prelude.{◌≡◌, ℕ, ◌==◌, None, List, slice_index}
use Rattle.room_rule.specs.Use.{IsAt, Own, own, Meaning}

-- the words are as the view of caller 0 says
abbrev pub IsCounted : List ℕ → List (ℕ × ℕ) → Type 0
IsCounted words views = (v : ℕ × ℕ) → IsAt views 0 v
    → (slice_index words 0 ≡ v.0) × (slice_index words 1 ≡ v.1)

module _ {X S : Type 0} where
  abbrev pub counting : Meaning X S (ℕ × ℕ)
  counting = record {
    words = λ x. 2;
    start = λ x callers word. 0;
    slots = λ x. 0;
    starts = λ who. (0, 0);
    lawful = λ x s gate. IsCounted s.words s.views;
    -- caller 0 steps the first word inside, and the second outside, as its view then says
    may_step = λ x room s. (s.who ≡ 0) × (s.word ≡ 0)
        × ((v : ℕ × ℕ) → IsAt s.before.views 0 v → s.after ≡ (s.value, v.1));
    may_touch = λ x s. (s.who ≡ 0) × (s.word ≡ 1)
        × ((v : ℕ × ℕ) → IsAt s.before.views 0 v → s.after ≡ (v.0, s.value));
    -- the key's holder, whoever it is, stores what it finds
    may_exit = λ x room s. (s.value ≡ slice_index s.before.words s.word)
        × IsAt s.before.views s.who s.after;
    is_touch = λ x word. word == 1;
    may_enter = λ x v. Unit {0};
    may_leave = λ x v. Unit {0};
    rested = λ x words v. Unit {0};
    last = λ v. 0;
    keeps = λ v. None;
  }

-- of a step: the number found is the view's, and the number left is that of the view after
module _ {S : Type 0} where
  abbrev pub counted : Own S (ℕ × ℕ) → ℕ → ℕ → Own S (ℕ × ℕ) → Type 0
  counted before old new after =
      (old ≡ before.user.0) × (after ≡ own (new, before.user.1) before.held)

  abbrev pub touched : Own S (ℕ × ℕ) → ℕ → ℕ → Own S (ℕ × ℕ) → Type 0
  touched before old new after =
      (old ≡ before.user.1) × (after ≡ own (before.user.0, new) before.held)

  abbrev pub restored : Own S (ℕ × ℕ) → ℕ → ℕ → Own S (ℕ × ℕ) → Type 0
  restored before old new after = (new ≡ old) × (after ≡ before)
