-- That the table follows the protocol and the use: each step on a word of the rooms is its caller's
-- act, and a step on a user word that the use allows is no act, and keeps the content lawful.
use Rattle.std.specs.Prelude.{◌≡◌, ℕ, ◌+◌, ◌%◌, ◌^◌, ◌<◌, Option, Some}
use Rattle.room_core.specs.declared.acts.Act.TheVariants.{Draw, Step, Leave}
use Rattle.room_core.specs.declared.phases.Phase.{Phase}
use Rattle.room_core.specs.declared.phases.Phase.TheVariants.{Out, Looking, Counting, Admitting, Inside, Exiting}
use Rattle.room_core.specs.declared.words.Word.TheVariants.{Wait, Done}
use Rattle.room_core.specs.Words.{place}
use Rattle.room_core.specs.Moves.{Kind, Stores, Move, move, drawing_move, value_of}
use Rattle.room_rule.specs.Use.{Own, Meaning, RestsOn, user_place}
use Rattle.room_rule.specs.Steps.{CanStep, CanExit, CanTouch}
use Rattle.room_rule.specs.View.{moved}
use Rattle.room_rule.specs.Told.{Seated, held_in, Carries, stepped_by, left_by, IsEvent, IsNoEvent}
use Rattle.room_rule.specs.declared.rule.Plan.{Plan}
use Rattle.room_rule.specs.declared.views.Role.TheVariants.{Pass}
use Rattle.room_rule.specs.declared.views.Shown.{Shown}

-- the number that a step tells: the one stored, or else the one found
abbrev pub number_told : Kind → ℕ → ℕ
number_told (Stores value) n = value
number_told _ n = n

module _ {X S V : Type 0} (M : Meaning X S V) (rooms : ℕ) where
  -- the room exists, and who ends its exit code shows words that rest
  abbrev pub MayGo : X → Shown V → Phase → Type 0
  MayGo x v (Looking room ticket first) = room < rooms
  MayGo x v (Counting room ticket first turn) = room < rooms
  MayGo x v (Admitting room ticket first turn to) = room < rooms
  MayGo x v (Exiting room turn) = (0 < rooms) × RestsOn M x v.kept v.user
  MayGo x v _ = Unit {0}

  -- a caller's step of the row of its phase
  pub record RowStep (k : Plan X) (me : Seated S V) (mv : Move) : Type 0 where
    pub pass : me.0.role ≡ Pass
    pub row : move rooms me.0.who me.0.phase ≡ Some mv
    pub may : MayGo k.usage me.0 me.0.phase

  -- a caller that is out, has a draw left and may enter
  pub record Drawer (k : Plan X) (me : Seated S V) (room : ℕ) : Type 0 where
    pub pass : me.0.role ≡ Pass
    pub out : me.0.phase ≡ Out
    pub exists : room < rooms
    pub left : me.0.draws < 2 ^ 48
    pub may : M.may_enter k.usage me.0.user

  -- an insider that may leave
  pub record Leaver (k : Plan X) (me : Seated S V) (room : ℕ) : Type 0 where
    pub pass : me.0.role ≡ Pass
    pub ticket : ℕ
    pub turn : ℕ
    pub to : ℕ
    pub first : Option ℕ
    pub inside : me.0.phase ≡ Inside room ticket first turn to
    pub may : M.may_leave k.usage me.0.user

  -- asks nothing
  abbrev pub anything : Own S V → ℕ → ℕ → Own S V → Type 0
  anything before old new after = Unit {0}

  -- an insider to which the use allows the step on the word; it carries the slot that it keeps
  pub record InsideStep (k : Plan X) (me : Seated S V) (word : ℕ) (change : ℕ → ℕ) : Type 0 where
    pub pass : me.0.role ≡ Pass
    pub room : ℕ
    pub ticket : ℕ
    pub turn : ℕ
    pub to : ℕ
    pub first : Option ℕ
    pub inside : me.0.phase ≡ Inside room ticket first turn to
    pub exists : word < M.words k.usage
    pub carries : Carries (M.keeps me.0.user) me.1
    pub can : CanStep M k.usage me.0.who me.0.user word change room turn (held_in me.1)
        (λ n. Unit {0}) anything

  -- the key's holder, to which the use allows the step on the word
  pub record KeyStep (k : Plan X) (me : Seated S V) (word : ℕ) (change : ℕ → ℕ) : Type 0 where
    pub pass : me.0.role ≡ Pass
    pub room : ℕ
    pub turn : ℕ
    pub exiting : me.0.phase ≡ Exiting room turn
    pub exists : word < M.words k.usage
    pub can : CanExit M k.usage me.0.who me.0.user word change room turn me.0.kept anything

  -- a caller outside all rooms, to which the use allows the step on the word
  pub record TouchStep (k : Plan X) (me : Seated S V) (word : ℕ) (change : ℕ → ℕ) : Type 0 where
    pub pass : me.0.role ≡ Pass
    pub out : me.0.phase ≡ Out
    pub exists : word < M.words k.usage
    pub can : CanTouch M k.usage me.0.who me.0.user word change (λ n. Unit {0}) anything

  -- the step of the row of a caller's phase, on the word of that row
  abbrev pub StepsAreActs : Type 0
  StepsAreActs = (k : Plan X) (slots id : ℕ) (me : Seated S V) (mv : Move)
      → RowStep k me mv
      → IsEvent M rooms k slots id me (place rooms mv.word) (value_of mv.kind)
      (λ n me'. stepped_by M rooms me (number_told mv.kind n) me') Step

  -- the add by which a caller that is out draws
  abbrev pub DrawsAreActs : Type 0
  DrawsAreActs = (k : Plan X) (slots id : ℕ) (me : Seated S V) (room : ℕ)
      → Drawer k me room
      → IsEvent M rooms k slots id me (place rooms (Wait room)) (λ n. (n + 1) % 2 ^ 64)
      (λ n me'. me' ≡ (moved me.0 (Draw room) (drawing_move room) n me.0.seen, me.1)) (Draw room)

  -- the add by which an insider leaves
  abbrev pub LeavesAreActs : Type 0
  LeavesAreActs = (k : Plan X) (slots id : ℕ) (me : Seated S V) (room : ℕ)
      → Leaver k me room
      → IsEvent M rooms k slots id me (place rooms (Done room)) (λ n. (n + 1) % 2 ^ 64)
      (λ n me'. left_by me n me') Leave

  -- a step of an insider on a user word, which the use allows; it may move a slot
  abbrev pub InsidersKeepIt : Type 0
  InsidersKeepIt = (k : Plan X) (slots id : ℕ) (me : Seated S V) (word : ℕ) (change : ℕ → ℕ)
      → InsideStep k me word change
      → IsNoEvent M rooms k slots id me (user_place rooms word) change (λ n me'. Unit {0})

  -- a step of the key's holder on a user word, which the use allows
  abbrev pub HoldersKeepIt : Type 0
  HoldersKeepIt = (k : Plan X) (slots id : ℕ) (me : Seated S V) (word : ℕ) (change : ℕ → ℕ)
      → KeyStep k me word change
      → IsNoEvent M rooms k slots id me (user_place rooms word) change (λ n me'. Unit {0})

  -- a step of a caller outside all rooms on a user word, which the use allows
  abbrev pub TouchesKeepIt : Type 0
  TouchesKeepIt = (k : Plan X) (slots id : ℕ) (me : Seated S V) (word : ℕ) (change : ℕ → ℕ)
      → TouchStep k me word change
      → IsNoEvent M rooms k slots id me (user_place rooms word) change (λ n me'. Unit {0})
