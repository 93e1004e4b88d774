-- A drop box: a slot for one item, a turnstile that gives the slot to the first caller of a turn,
-- and a bell.
use Rattle.std.specs.Prelude.{◌≡◌, ℕ, ◌+◌, ◌^◌, ◌<◌, ◌≤◌, ◌⊎◌, ◌==◌, Bool, true, false, Option, Some, None, List, length, slice_index}
use Rattle.std.specs.List.{sum_by, count_by}
use mathlib.Core.Option.{none}
use Rattle.room_core.specs.Gate.{Gate, Shut, Held, Keyed}
use Rattle.room_rule.specs.Use.{IsAt, Slots, Content, IsInsider, UserStep, Meaning}
use Rattle.drop_box.specs.declared.uses.Visit.{Visit}

-- the words
abbrev pub turnstile : ℕ
turnstile = 0

-- the word that counts the rings
abbrev pub bell : ℕ
bell = 1

-- the view of a caller that has done nothing
abbrev pub new_visit : Visit
new_visit = record { last = 0; keeps = false; rings = 0 }

-- the slot that a caller keeps: slot 0, or none
abbrev pub slot_if : Bool → Option ℕ
slot_if true = Some 0
slot_if false = None

-- how many callers went through the turnstile in this turn
abbrev pub went : ℕ → List Visit → ℕ
went turn views = count_by (λ v. v.last == turn) views

-- how often all callers rang
abbrev pub rings_of : List Visit → ℕ
rings_of views = sum_by (λ v. v.rings) views

-- the turn of a gate
abbrev pub turn_of : Gate → ℕ
turn_of (Shut turn) = turn
turn_of (Held room turn ins) = turn
turn_of (Keyed room turn holder) = turn

-- What the turnstile shows: 0 while the gate is shut; while a room is held no more than went
-- through it in this turn; until the exit code has set it back, anything.
abbrev pub TurnstileShows : Gate → ℕ → List Visit → Type 0
TurnstileShows (Shut turn) n views = n ≡ 0
TurnstileShows (Held room turn ins) n views = n ≤ went turn views
TurnstileShows (Keyed room turn holder) n views = Unit {0}

-- who keeps the slot is inside, and went through the turnstile in this turn, which shows it
abbrev pub MayKeep : Gate → ℕ → ℕ → Visit → Type 0
MayKeep gate n who v = IsInsider gate who × (v.last ≡ turn_of gate) × (0 < n)

-- who finds n at the turnstile goes through it: the first gets the slot
abbrev pub through : ℕ → ℕ → Visit → Visit
through turn n v = record v { last = turn; keeps = n == 0 }

-- the caller keeps the slot
abbrev pub Keeps : List Visit → ℕ → Type 0
Keeps views who = (v : Visit) × IsAt views who v × (v.keeps ≡ true)

module _ {S : Type 0} where
  -- the slot is out exactly where somebody keeps it, and nobody else does
  pub record HasOneKeeper (slots : Slots S) (views : List Visit) : Type 0 where
    pub keeper : IsAt slots 0 none → (who : ℕ) × Keeps views who
    pub out : (who : ℕ) → Keeps views who → IsAt slots 0 none
    pub alone : (c d : ℕ) → Keeps views c → Keeps views d → c ≡ d

  -- what holds of a drop box at every moment
  pub record Boxed (s : Content S Visit) (gate : Gate) : Type 0 where
    pub few : length s.views ≤ 64
    pub shows : TurnstileShows gate (slice_index s.words turnstile) s.views
    pub rang : slice_index s.words bell ≡ rings_of s.views
    pub rarely : (who : ℕ) (v : Visit) → IsAt s.views who v → v.rings ≤ 2 ^ 32
    pub slot : HasOneKeeper s.slots s.views
    pub rightly : (who : ℕ) (v : Visit) → IsAt s.views who v → v.keeps ≡ true
        → MayKeep gate (slice_index s.words turnstile) who v

  -- a step of a caller that may: the word gets the value, and its view is changed so
  pub record Makes (s : UserStep S Visit) (word value : ℕ) (change : Visit → Visit)
      (May : Visit → Type 0) : Type 0 where
    pub view : Visit
    pub at : IsAt s.before.views s.who view
    pub may : May view
    pub word_is : s.word ≡ word
    pub value_is : s.value ≡ value
    pub after_is : s.after ≡ change view

  -- a step through the turnstile, once in a turn
  abbrev pub GoesThrough : UserStep S Visit → Type 0
  GoesThrough s =
      let n = slice_index s.before.words turnstile in
      let turn = turn_of s.gate in
      Makes s turnstile (n + 1) (through turn n) (λ v. v.last < turn)

  -- who keeps the slot brings it home, with a look at the turnstile
  abbrev pub BringsHome : UserStep S Visit → Type 0
  BringsHome s =
      let n = slice_index s.before.words turnstile in
      Makes s turnstile n (λ v. record v { keeps = false }) (λ v. v.keeps ≡ true)

  -- the exit code sets the turnstile back to 0
  abbrev pub SetsBack : UserStep S Visit → Type 0
  SetsBack s = Makes s turnstile 0 (λ v. v) (λ v. Unit {0})

  -- a caller rings the bell
  abbrev pub Rings : UserStep S Visit → Type 0
  Rings s =
      let n = slice_index s.before.words bell in
      Makes s bell (n + 1) (λ v. record v { rings = v.rings + 1 }) (λ v. v.rings < 2 ^ 32)

-- a drop box as a use of rooms
abbrev pub box_meaning : {X S : Type 0} → Meaning X S Visit
box_meaning = record {
  words = λ x. 2;
  start = λ x callers word. 0;
  slots = λ x. 1;
  starts = λ who. new_visit;
  lawful = λ x s gate. Boxed s gate;
  may_step = λ x room s. GoesThrough s ⊎ BringsHome s;
  may_exit = λ x room s. SetsBack s;
  may_touch = λ x s. Rings s;
  is_touch = λ x word. word == bell;
  may_enter = λ x v. Unit {0};
  may_leave = λ x v. v.keeps ≡ false;
  rested = λ x words v. slice_index words turnstile ≡ 0;
  last = λ v. v.last;
  keeps = λ v. slot_if v.keeps;
}
