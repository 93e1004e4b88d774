-- The laws that each use of rooms proves.
use Rattle.std.specs.Prelude.{◌≡◌, ℕ, ◌+◌, ◌<◌, ◌≤◌, ◌⊎◌, ◌↔◌, Bool, true, false, Option, Some, None, List, length, slice_index}
use mathlib.Core.Option.{some, none}
use Rattle.room_core.specs.Gate.{Gate, Shut, Held, Keyed, nobody, joined, without}
use Rattle.room_rule.specs.Use.{IsAt, Content, rewritten, written, UserStep, user_step, Meaning}
use Rattle.room_rule.specs.Use.{IsInsider, StandsInside, HasKey, StandsOutside}

-- a step takes a slot, brings one home, or leaves what its caller keeps
abbrev pub MovesOne : Option ℕ → Option ℕ → Type 0
MovesOne (Some k) (Some j) = k ≡ j
MovesOne _ _ = Unit {0}

module _ {X S V : Type 0} (M : Meaning X S V) where
  -- 1. what a set-up starts with is lawful
  abbrev pub Starts : Type 0
  Starts = (x : X) (callers : ℕ) (s : Content S V)
      → callers ≤ 64
      → length s.words ≡ M.words x
      → ((i : ℕ) → i < M.words x → slice_index s.words i ≡ M.start x callers i)
      → length s.views ≡ callers
      → length s.slots ≡ M.slots x
      → ((k : ℕ) → k < M.slots x → IsAt s.slots k (some None))
      → ((c : ℕ) → c < callers → IsAt s.views c (M.starts c))
      → M.lawful x s (Shut 0)

  -- 2. it stays lawful when a room opens in the next turn, with nobody inside yet
  abbrev pub Opens : Type 0
  Opens = (x : X) (s : Content S V) (turn room : ℕ)
      → M.lawful x s (Shut turn)
      → M.lawful x s (Held room (turn + 1) nobody)

  -- 3. it stays lawful when a caller enters that may, and took no step in this turn
  abbrev pub Enters : Type 0
  Enters = (x : X) (s : Content S V) (room turn : ℕ) (ins : ℕ → Bool) (who : ℕ) (v : V)
      → M.lawful x s (Held room turn ins)
      → IsAt s.views who v
      → M.may_enter x v
      → M.last v < turn
      → M.lawful x s (Held room turn (joined ins who))

  -- 4. it stays lawful when an insider takes a step that it may, which may take a slot, or bring one
  -- home
  abbrev pub Steps : Type 0
  Steps = (x : X) (s : Content S V) (room turn : ℕ) (ins : ℕ → Bool) (who : ℕ) (v : V)
      (word value : ℕ) (after : V) (contents : Option S)
      → StandsInside M x room turn ins who v s
      → word < M.words x
      → M.may_step x room (user_step s (Held room turn ins) who word value after contents)
      → M.lawful x (written M s who v word value after contents) (Held room turn ins)

  -- 5. it stays lawful when an insider leaves that may
  abbrev pub Leaves : Type 0
  Leaves = (x : X) (s : Content S V) (room turn : ℕ) (ins : ℕ → Bool) (who : ℕ) (v : V)
      → StandsInside M x room turn ins who v s
      → M.may_leave x v
      → M.lawful x s (Held room turn (without ins who))

  -- 5. and when the last one leaves, and has the key
  abbrev pub LeavesLast : Type 0
  LeavesLast = (x : X) (s : Content S V) (room turn : ℕ) (ins : ℕ → Bool) (who : ℕ) (v : V)
      → StandsInside M x room turn ins who v s
      → M.may_leave x v
      → ((d : ℕ) → without ins who d ≡ false)
      → M.lawful x s (Keyed room turn who)

  -- 6. it stays lawful when the key's holder takes a step that it may
  abbrev pub Exits : Type 0
  Exits = (x : X) (s : Content S V) (room turn who : ℕ) (v : V) (word value : ℕ) (after : V)
      → HasKey M x room turn who v s
      → word < M.words x
      → M.may_exit x room (user_step s (Keyed room turn who) who word value after None)
      → M.lawful x (rewritten s who word value after) (Keyed room turn who)

  -- 7. it stays lawful when the key is given up where the words rest
  abbrev pub Passes : Type 0
  Passes = (x : X) (s : Content S V) (room turn who : ℕ) (v : V)
      → HasKey M x room turn who v s
      → M.rested x s.words v
      → M.lawful x s (Shut turn)

  -- 8. it stays lawful when a caller outside all rooms takes a step that it may
  abbrev pub Touches : Type 0
  Touches = (x : X) (s : Content S V) (gate : Gate) (who : ℕ) (v : V) (word value : ℕ) (after : V)
      → StandsOutside M x gate who v s
      → word < M.words x
      → M.may_touch x (user_step s gate who word value after None)
      → M.lawful x (rewritten s who word value after) gate

  -- the last turn stays as it is, or becomes that of the gate
  abbrev pub StaysOrTurns : V → V → ℕ → Type 0
  StaysOrTurns v after turn = (M.last after ≡ M.last v) ⊎ (M.last after ≡ turn)

  -- the last turn is 0 at the start, and no step makes it another turn than that of the gate
  pub record LastTurns : Type 0 where
    pub starts : (c : ℕ) → M.last (M.starts c) ≡ 0
    pub steps : (x : X) (s : Content S V) (room turn : ℕ) (ins : ℕ → Bool) (who : ℕ) (v : V)
        (word value : ℕ) (after : V) (contents : Option S)
        → StandsInside M x room turn ins who v s
        → word < M.words x
        → M.may_step x room (user_step s (Held room turn ins) who word value after contents)
        → StaysOrTurns v after turn
    pub exits : (x : X) (s : Content S V) (room turn who : ℕ) (v : V) (word value : ℕ) (after : V)
        → HasKey M x room turn who v s
        → word < M.words x
        → M.may_exit x room (user_step s (Keyed room turn who) who word value after None)
        → StaysOrTurns v after turn
    pub touches : (x : X) (s : Content S V) (gate : Gate) (who : ℕ) (v : V) (word value : ℕ)
        (after : V)
        → StandsOutside M x gate who v s
        → word < M.words x
        → M.may_touch x (user_step s gate who word value after None)
        → M.last after ≡ M.last v

  -- a touch writes only touch words, and no other step writes one
  pub record TouchWords : Type 0 where
    pub touches : (x : X) (s : UserStep S V)
        → M.may_touch x s
        → M.is_touch x s.word ≡ true
    pub steps : (x : X) (room : ℕ) (s : UserStep S V)
        → M.is_touch x s.word ≡ true
        → M.may_step x room s
        → s.value ≡ slice_index s.before.words s.word
    pub exits : (x : X) (room : ℕ) (s : UserStep S V)
        → M.is_touch x s.word ≡ true
        → M.may_exit x room s
        → s.value ≡ slice_index s.before.words s.word

  -- somebody's view keeps the slot
  abbrev pub IsKept : List V → ℕ → Type 0
  IsKept views k = (c : ℕ) × (v : V) × IsAt views c v × (M.keeps v ≡ Some k)

  pub record SlotLaws : Type 0 where
    -- a slot is out exactly where somebody keeps it
    pub out : (x : X) (s : Content S V) (gate : Gate) (k : ℕ)
        → M.lawful x s gate
        → k < M.slots x
        → IsAt s.slots k none ↔ IsKept s.views k
    -- no two callers keep one slot
    pub one : (x : X) (s : Content S V) (gate : Gate) (c d : ℕ) (u v : V) (k : ℕ)
        → M.lawful x s gate
        → IsAt s.views c u
        → IsAt s.views d v
        → M.keeps u ≡ Some k
        → M.keeps v ≡ Some k
        → c ≡ d
    -- only insiders keep one, and it is one of those that there are
    pub insiders : (x : X) (s : Content S V) (gate : Gate) (c : ℕ) (v : V) (k : ℕ)
        → M.lawful x s gate
        → IsAt s.views c v
        → M.keeps v ≡ Some k
        → IsInsider gate c × (k < M.slots x)
    -- no step moves two
    pub moves : (x : X) (room : ℕ) (s : UserStep S V) (v : V)
        → IsAt s.before.views s.who v
        → M.may_step x room s
        → MovesOne (M.keeps v) (M.keeps s.after)
    -- and who keeps one may not leave
    pub leaves : (x : X) (v : V) → M.may_leave x v → M.keeps v ≡ None

  pub record Laws : Type 0 where
    pub starts : Starts
    pub opens : Opens
    pub enters : Enters
    pub steps : Steps
    pub leaves : Leaves
    pub leaves_last : LeavesLast
    pub exits : Exits
    pub passes : Passes
    pub touches : Touches
    pub last_turns : LastTurns
    pub touch_words : TouchWords
    pub slots : SlotLaws
