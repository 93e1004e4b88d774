-- The rule of the table: words and views show a state that the protocol reaches, and the user words,
-- slots and user views are lawful for its gate.
use Rattle.std.specs.Prelude.{◌≡◌, ℕ, ◌<◌, ◌≤◌, nat_lt, Bool, true, false, Option, List, ◌++◌, length, slice_index}
use Rattle.atomic_table.specs.Table.{State}
use Rattle.room_core.specs.declared.phases.Phase.{Phase}
use Rattle.room_core.specs.declared.phases.Phase.TheVariants.{Out, Looking, Glancing, Seizing, Counting, Admitting, Turning, Exiting}
use Rattle.room_core.specs.Words.{listed}
use Rattle.room_core.specs.Runs.{World}
use Rattle.room_core.specs.Machine.{phase_of}
use Rattle.room_core.specs.Trace.{trace}
use Rattle.room_core.specs.Trace.{openings, since}
use Rattle.room_core.specs.Runs.{Reached}
use Rattle.room_core.specs.Gate.{gate}
use Rattle.room_rule.specs.Use.{IsAt, Content, Meaning, ShowsWords}
use Rattle.room_rule.specs.Openings.{world_openings, StartsWith, IsAmong}
use Rattle.room_rule.specs.declared.rule.Plan.{Plan}
use Rattle.room_rule.specs.declared.views.Role.{Role}
use Rattle.room_rule.specs.declared.views.Role.TheVariants.{Maker, Pass, Note, Keeper, Gone}
use Rattle.room_rule.specs.declared.views.Ended.{Ended}
use Rattle.room_rule.specs.declared.views.Shown.{Shown}

-- which seat each caller has, which seat makes the passes, and how many it has made
pub record Roll : Type 0 where
  pub seat_of : ℕ → ℕ
  pub maker : ℕ
  pub made : ℕ

module _ {V : Type 0} (world : World) (views : List V) (roll : Roll) (id : ℕ) where
  -- the seat is that of the caller with the view's number, whose phase, draws and user view it shows
  pub record IsCaller (v : Shown V) : Type 0 where
    pub seat : roll.seat_of v.who ≡ id
    pub made : v.who < roll.made
    pub phase : phase_of world.state v.who ≡ v.phase
    pub draws : slice_index world.state.draws v.who ≡ v.draws
    pub user : IsAt views v.who v.user
    pub seen : StartsWith (world_openings world) v.seen
    pub known : IsAmong (world_openings world) v.known

  -- a caller whose pass the seat has taken in: it is out, with its last user view
  pub record IsTakenIn (e : Ended V) : Type 0 where
    pub seat : roll.seat_of e.who ≡ id
    pub made : e.who < roll.made
    pub out : phase_of world.state e.who ≡ Out
    pub user : IsAt views e.who e.user

  -- what a seat shows is so
  abbrev pub Knows : Role → Shown V → Type 0
  Knows Maker v = (id ≡ roll.maker) × (v.who ≡ roll.made)
  Knows Pass v = IsCaller v
  Knows Note v = StartsWith (world_openings world) v.seen
  Knows Keeper v = (i : ℕ) (e : Ended V) → IsAt v.ended i e → IsTakenIn e
  Knows Gone v = Unit {0}

-- a caller whose pass is not made is out, has drawn nothing, and has its starting view
pub record IsUnmade {V : Type 0} (world : World) (views : List V) (starts : ℕ → V)
    (c : ℕ) : Type 0 where
  pub out : phase_of world.state c ≡ Out
  pub draws : slice_index world.state.draws c ≡ 0
  pub user : IsAt views c (starts c)

-- who waits for a room, with a ticket
abbrev pub is_waiting : Phase → Bool
is_waiting (Looking room ticket first) = true
is_waiting (Glancing room ticket first) = true
is_waiting (Seizing room ticket first idle) = true
is_waiting (Counting room ticket first turn) = nat_lt 0 ticket
is_waiting (Admitting room ticket first turn to) = nat_lt 0 ticket
is_waiting (Turning room ticket first to) = true
is_waiting _ = false

module _ {X S V : Type 0} (M : Meaning X S V) where
  -- a caller that waits may enter, and took its last step before the openings after its draw
  pub record MayStillEnter (x : X) (world : World) (c : ℕ) (v : V) : Type 0 where
    pub last : M.last v ≤ since c world.history
    pub may : M.may_enter x v

  -- who has the key shows the words that are no touch words
  abbrev pub ShowsKept : X → List ℕ → Shown V → Type 0
  ShowsKept x words v = v.role ≡ Pass → (room turn : ℕ) → v.phase ≡ Exiting room turn
      → ShowsWords M x v.kept words

  pub record Ruled (m : ℕ) (k : Plan X) (s : State (Option S) (Shown V)) : Type 0 where
    -- the words of the table are those of the rooms, in a state that the protocol reaches, and then
    -- those of the use
    pub world : World
    pub reached : Reached m k.callers world
    pub content : Content S V
    pub words : s.words ≡ listed world.state.words ++ content.words
    pub sized : length content.words ≡ M.words k.usage
    -- its slots are those of the use
    pub slots : s.homes ≡ content.slots
    pub slotted : length content.slots ≡ M.slots k.usage
    pub crowd : length content.views ≡ k.callers
    pub few_callers : k.callers ≤ 64
    pub few_rooms : m ≤ 7
    -- what the seats show is so
    pub roll : Roll
    pub few_made : roll.made ≤ k.callers
    pub each : (id : ℕ) (v : Shown V) → IsAt s.views id v
        → Knows world content.views roll id v.role v
    pub unmade : (c : ℕ) → roll.made ≤ c → c < k.callers
        → IsUnmade world content.views M.starts c
    pub kept : (id : ℕ) (v : Shown V) → IsAt s.views id v
        → ShowsKept k.usage content.words v
    -- the content is lawful for the gate of the state
    pub lawful : M.lawful k.usage content (gate (trace world.history))
    pub past : (c : ℕ) (v : V) → IsAt content.views c v
        → M.last v ≤ openings (trace world.history)
    pub waits : (c : ℕ) (v : V) → IsAt content.views c v
        → is_waiting (phase_of world.state c) ≡ true
        → MayStillEnter k.usage world c v
