-- What a use of rooms means, over plain data.
use Rattle.std.specs.Prelude.{◌≡◌, ℕ, ◌+◌, ◌*◌, ◌<◌, Bool, true, false, Option, Some, None, List, length, slice_index, slice_set}
use mathlib.Core.Option as maybe
use mathlib.Core.Option.{some, none}
use lib.ListN.{get_elem?}
use Rattle.room_core.specs.Gate.{Gate, Shut, Held, Keyed}

-- the list has a at the place i
abbrev pub IsAt : {A : Type 0} → List A → ℕ → A → Type 0
IsAt xs i a = get_elem? xs i ≡ some a

-- the place of user word u in the table of m rooms
abbrev pub user_place : ℕ → ℕ → ℕ
user_place m u = 1 + 3 * m + u

-- a slot: it is out, or at home with its contents
abbrev pub Place : Type 0 → Type 0
Place S = maybe.Option (Option S)

-- slots, by their numbers
abbrev pub Slots : Type 0 → Type 0
Slots S = List (Place S)

-- what a table holds for a use: its words, its slots, and a view for each caller, by the callers'
-- numbers
pub record Content (S V : Type 0) : Type 0 where
  pub words : List ℕ
  pub slots : Slots S
  pub views : List V

-- what a caller has for the use: its view, and what the slot holds that it keeps, if it keeps one
pub record Own (S V : Type 0) : Type 0 where
  pub user : V
  pub held : Option (Option S)

-- what a caller with this view and this in its slot has
abbrev pub own : {S V : Type 0} → V → Option (Option S) → Own S V
own user held = record { user = user; held = held }

-- what a slot holds, or None
abbrev pub contents_of : {S : Type 0} → Option (Option S) → Option S
contents_of None = None
contents_of (Some contents) = contents

-- the contents of a slot that is at home
abbrev pub at_home : {S : Type 0} → maybe.Option (Place S) → Option S
at_home (some (some contents)) = contents
at_home _ = None

-- the slots after a step of a caller that keeps the one slot before it and the other after it: what
-- it takes is out, and what it brings is at home with the contents
abbrev pub slots_after : {S : Type 0} → Slots S → Option ℕ → Option ℕ → Option S → Slots S
slots_after slots None (Some k) contents = slice_set slots k none
slots_after slots (Some k) None contents = slice_set slots k (some contents)
slots_after slots _ _ contents = slots

-- what it holds after that step: the contents of the slot that it takes, and nothing where it brings
-- one home
abbrev pub held_after : {S : Type 0} → Slots S → Option ℕ → Option ℕ → Option (Option S)
    → Option (Option S)
held_after slots None (Some k) held = Some (at_home (get_elem? slots k))
held_after slots (Some k) None held = None
held_after slots _ _ held = held

-- a step: the content and the gate before it, who makes it, the word, its new value, the view of that
-- caller after it, and the contents with which it brings a slot home, if it brings one
pub record UserStep (S V : Type 0) : Type 0 where
  pub before : Content S V
  pub gate : Gate
  pub who : ℕ
  pub word : ℕ
  pub value : ℕ
  pub after : V
  pub contents : Option S

-- the step of this caller, at this gate and content
abbrev pub user_step : {S V : Type 0} → Content S V → Gate → ℕ → ℕ → ℕ → V → Option S
    → UserStep S V
user_step s gate who word value after contents = record {
  before = s;
  gate = gate;
  who = who;
  word = word;
  value = value;
  after = after;
  contents = contents;
}

-- X is the use, S what a slot may hold, and V the view of one caller
pub record Meaning (X S V : Type 0) : Type 1 where
  -- how many words there are, and what each starts with for so many callers
  pub words : X → ℕ
  pub start : X → ℕ → ℕ → ℕ
  -- how many slots there are; each starts at home with None
  pub slots : X → ℕ
  -- the view that each caller starts with, by its number
  pub starts : ℕ → V
  -- what holds at every moment
  pub lawful : X → Content S V → Gate → Type 0
  -- the steps of an insider of a room, of the holder of its key, of a caller outside all rooms
  pub may_step : X → ℕ → UserStep S V → Type 0
  pub may_exit : X → ℕ → UserStep S V → Type 0
  pub may_touch : X → UserStep S V → Type 0
  -- the words that any caller may step outside rooms, and nobody else writes
  pub is_touch : X → ℕ → Bool
  -- the views with which a caller may draw, and may leave
  pub may_enter : X → V → Type 0
  pub may_leave : X → V → Type 0
  -- the words that need no exit code any more, with the view of the key's holder
  pub rested : X → List ℕ → V → Type 0
  -- the turn of the caller's last step that counts, or 0
  pub last : V → ℕ
  -- the slot that the caller of this view keeps
  pub keeps : V → Option ℕ

-- after a step of a caller that moves no slot: one word is new, and that caller's view
abbrev pub rewritten : {S V : Type 0} → Content S V → ℕ → ℕ → ℕ → V → Content S V
rewritten s who word value after = record {
  words = slice_set s.words word value;
  slots = s.slots;
  views = slice_set s.views who after;
}

-- after a step of a caller with the view v: the same, and a slot that it takes is out, and one that
-- it brings is at home with the contents
abbrev pub written : {X S V : Type 0} → Meaning X S V → Content S V → ℕ → V → ℕ → ℕ → V → Option S
    → Content S V
written M s who v word value after contents = record {
  words = slice_set s.words word value;
  slots = slots_after s.slots (M.keeps v) (M.keeps after) contents;
  views = slice_set s.views who after;
}

-- the caller is inside the held room
abbrev pub IsInsider : Gate → ℕ → Type 0
IsInsider (Held room turn ins) who = ins who ≡ true
IsInsider _ who = ⊥

-- the caller is in no room, and has no key
abbrev pub Outside : Gate → ℕ → Type 0
Outside (Shut turn) who = Unit {0}
Outside (Held room turn ins) who = ins who ≡ false
Outside (Keyed room turn holder) who = ¬ (holder ≡ who)

module _ {X S V : Type 0} (M : Meaning X S V) (x : X) where
  -- a lawful content, in which the caller is inside the held room with the view v
  pub record StandsInside (room turn : ℕ) (ins : ℕ → Bool) (who : ℕ) (v : V)
      (s : Content S V) : Type 0 where
    pub lawful : M.lawful x s (Held room turn ins)
    pub sized : length s.words ≡ M.words x
    pub slotted : length s.slots ≡ M.slots x
    pub view : IsAt s.views who v
    pub inside : ins who ≡ true

  -- a lawful content, in which the caller has the key with the view v
  pub record HasKey (room turn who : ℕ) (v : V) (s : Content S V) : Type 0 where
    pub lawful : M.lawful x s (Keyed room turn who)
    pub sized : length s.words ≡ M.words x
    pub slotted : length s.slots ≡ M.slots x
    pub view : IsAt s.views who v

  -- a lawful content, in which the caller is outside all rooms with the view v
  pub record StandsOutside (gate : Gate) (who : ℕ) (v : V) (s : Content S V) : Type 0 where
    pub lawful : M.lawful x s gate
    pub sized : length s.words ≡ M.words x
    pub slotted : length s.slots ≡ M.slots x
    pub view : IsAt s.views who v
    pub outside : Outside gate who

  -- the list shows each word that is no touch word as it stands
  pub record ShowsWords (kept words : List ℕ) : Type 0 where
    pub long : length kept ≡ M.words x
    pub same : (i : ℕ) → i < M.words x → M.is_touch x i ≡ false
        → slice_index words i ≡ slice_index kept i

  -- the words rest, whatever the touch words are
  abbrev pub RestsOn : List ℕ → V → Type 0
  RestsOn kept v = (words : List ℕ) → ShowsWords kept words → M.rested x words v
