-- What a step on a user word asks of its caller, and what was so when it was made.
use Rattle.std.specs.Prelude.{◌≡◌, ℕ, ◌^◌, ◌<◌, Bool, Option, None, List, slice_index}
use Rattle.room_core.specs.Gate.{Gate, Held, Keyed}
use Rattle.room_rule.specs.Use.{Content, Own, own, contents_of, held_after, UserStep, user_step, Meaning}
use Rattle.room_rule.specs.Use.{StandsInside, HasKey, StandsOutside, ShowsWords}

module _ {X S V : Type 0} (M : Meaning X S V) (x : X) (who : ℕ) (v : V) (word : ℕ)
    (change : ℕ → ℕ) where
  -- There is a view after the step, which makes of the word what `change` says, with which the
  -- step may be made; and `then` holds of what the caller has before, the word's old and new value,
  -- and what it has after. `held` is what it holds before, and `holds` what it holds with the view
  -- after.
  abbrev pub CanGo : Option (Option S) → (V → Option (Option S)) → (UserStep S V → Type 0)
      → (Own S V → ℕ → ℕ → Own S V → Type 0) → Content S V → Gate → Type 0
  CanGo held holds may then s gate =
      let old = slice_index s.words word in
      (after : V) × may (user_step s gate who word (change old) after (contents_of held))
      × then (own v held) old (change old) (own after (holds after))

  -- in each lawful content in which the caller stands inside so, the word fits, and it can go
  abbrev pub CanStep : ℕ → ℕ → Option (Option S) → (ℕ → Type 0)
      → (Own S V → ℕ → ℕ → Own S V → Type 0) → Type 0
  CanStep room turn held fits then = (s : Content S V) (ins : ℕ → Bool)
      → StandsInside M x room turn ins who v s
      → slice_index s.words word < 2 ^ 64
      → fits (slice_index s.words word)
      × CanGo held (λ after. held_after s.slots (M.keeps v) (M.keeps after) held)
      (M.may_step x room) then s (Held room turn ins)

  -- in each in which it has the key so, and the words stand as `kept` shows, it can go
  abbrev pub CanExit : ℕ → ℕ → List ℕ → (Own S V → ℕ → ℕ → Own S V → Type 0) → Type 0
  CanExit room turn kept then = (s : Content S V)
      → HasKey M x room turn who v s
      → ShowsWords M x kept s.words
      → slice_index s.words word < 2 ^ 64
      → CanGo None (λ after. None) (M.may_exit x room) then s (Keyed room turn who)

  -- in each in which it stands outside all rooms so, the word fits, and it can go
  abbrev pub CanTouch : (ℕ → Type 0) → (Own S V → ℕ → ℕ → Own S V → Type 0) → Type 0
  CanTouch fits then = (s : Content S V) (gate : Gate)
      → StandsOutside M x gate who v s
      → slice_index s.words word < 2 ^ 64
      → fits (slice_index s.words word)
      × CanGo None (λ after. None) (M.may_touch x) then s gate

-- A step that was made, from `old` to `value`: in a content and at a gate at which its caller stood so
-- the word was `old`, and the step was one of those that the caller may take there, with the view and
-- the slot that it has after it.
pub record IsMade {S V : Type 0} (stood : Content S V → Gate → Type 0) (may : UserStep S V → Type 0)
    (holds : Content S V → V → Option (Option S)) (who word : ℕ) (before : Own S V) (old value : ℕ)
    (after : Own S V) : Type 0 where
  pub content : Content S V
  pub gate : Gate
  pub stands : stood content gate
  pub found : slice_index content.words word ≡ old
  pub allowed : may (user_step content gate who word value after.user (contents_of before.held))
  pub held : after.held ≡ holds content after.user

module _ {X S V : Type 0} (M : Meaning X S V) (x : X) (who word : ℕ) where
  -- by an insider of the room in its turn
  abbrev pub StepMade : ℕ → ℕ → Own S V → ℕ → ℕ → Own S V → Type 0
  StepMade room turn before old value after = IsMade
      (λ s gate. (ins : ℕ → Bool) × (gate ≡ Held room turn ins)
      × StandsInside M x room turn ins who before.user s)
      (M.may_step x room)
      (λ s u. held_after s.slots (M.keeps before.user) (M.keeps u) before.held)
      who word before old value after

  -- by the key's holder, when the words stood as `kept` shows
  abbrev pub ExitMade : ℕ → ℕ → List ℕ → Own S V → ℕ → ℕ → Own S V → Type 0
  ExitMade room turn kept before old value after = IsMade
      (λ s gate. (gate ≡ Keyed room turn who) × HasKey M x room turn who before.user s
      × ShowsWords M x kept s.words)
      (M.may_exit x room) (λ s u. None) who word before old value after

  -- by a caller outside all rooms
  abbrev pub TouchMade : Own S V → ℕ → ℕ → Own S V → Type 0
  TouchMade before old value after = IsMade
      (λ s gate. StandsOutside M x gate who before.user s)
      (M.may_touch x) (λ s u. None) who word before old value after
