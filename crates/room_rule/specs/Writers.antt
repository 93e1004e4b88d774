-- Who may change a user word.
use Rattle.std.specs.Prelude.{◌≡◌, ◌≢◌, ℕ, ◌^◌, ◌<◌, ◌⊎◌, true, false, slice_index, reverse, Option}
use Rattle.atomic_table.specs.Table.{State}
use Rattle.room_core.specs.declared.phases.Phase.{Phase}
use Rattle.room_core.specs.declared.phases.Phase.TheVariants.{Out, Inside, Exiting}
use Rattle.room_core.specs.Gate.{gate, Keyed}
use Rattle.room_core.specs.Occupants.{Occupies}
use Rattle.room_core.specs.Order.{trace_of}
use Rattle.room_core.specs.Runs.{World}
use Rattle.room_core.specs.Trace.{trace}
use Rattle.room_rule.specs.Use.{IsAt, Meaning, IsInsider, user_place}
use Rattle.room_rule.specs.Steps.{CanStep, CanExit, CanTouch}
use Rattle.room_rule.specs.Told.{Seated, held_in}
use Rattle.room_rule.specs.Rule.{Ruled}
use Rattle.room_rule.specs.Following.{anything}
use Rattle.room_rule.specs.declared.rule.Plan.{Plan}
use Rattle.room_rule.specs.declared.views.Role.TheVariants.{Pass}
use Rattle.room_rule.specs.declared.views.Shown.{Shown}

-- nobody occupies a room
abbrev pub IsEmpty : World → Type 0
IsEmpty w = (c room : ℕ) → Occupies (trace_of (reverse w.history)) c room → ⊥

-- the caller is an insider of the held room, or has the key while nobody is inside
abbrev pub HoldsWords : World → ℕ → Type 0
HoldsWords w who = IsInsider (gate (trace w.history)) who
    ⊎ ((room turn : ℕ) × (gate (trace w.history) ≡ Keyed room turn who) × IsEmpty w)

module _ {X S V : Type 0} (M : Meaning X S V) (rooms : ℕ) where
  -- the use allows the step to a caller of this phase: inside, with the key, or outside
  abbrev pub Allowed : X → Seated S V → ℕ → (ℕ → ℕ) → Phase → Type 0
  Allowed x me word change (Inside room ticket first turn to) =
      CanStep M x me.0.who me.0.user word change room turn (held_in me.1) (λ n. Unit {0})
      (anything M rooms)
  Allowed x me word change (Exiting room turn) =
      CanExit M x me.0.who me.0.user word change room turn me.0.kept (anything M rooms)
  Allowed x me word change Out =
      CanTouch M x me.0.who me.0.user word change (λ n. Unit {0}) (anything M rooms)
  Allowed x me word change _ = ⊥

  -- a caller's step on a user word that the use allows, from a state that the rule allows
  pub record UserMove (k : Plan X) (s : State (Option S) (Shown V)) (me : Seated S V) (word : ℕ)
      (change : ℕ → ℕ) : Type 0 where
    pub id : ℕ
    pub at : IsAt s.views id me.0
    pub pass : me.0.role ≡ Pass
    pub exists : word < M.words k.usage
    pub allowed : Allowed k.usage me word change me.0.phase
    pub small : slice_index s.words (user_place rooms word) < 2 ^ 64

  -- a word that is no touch word is stepped on by insiders of the held room alone, or by the key's
  -- holder while nobody is inside
  abbrev pub HoldersStepOnWords : Type 0
  HoldersStepOnWords = (k : Plan X) (s : State (Option S) (Shown V)) (r : Ruled M rooms k s)
      (me : Seated S V) (word : ℕ) (change : ℕ → ℕ)
      → UserMove k s me word change
      → M.is_touch k.usage word ≡ false
      → HoldsWords r.world me.0.who

  -- a touch word is changed by callers outside all rooms alone
  abbrev pub OutsidersChangeTouchWords : Type 0
  OutsidersChangeTouchWords = (k : Plan X) (s : State (Option S) (Shown V)) (r : Ruled M rooms k s)
      (me : Seated S V) (word : ℕ) (change : ℕ → ℕ)
      → UserMove k s me word change
      → M.is_touch k.usage word ≡ true
      → change (slice_index s.words (user_place rooms word))
      ≢ slice_index s.words (user_place rooms word)
      → me.0.phase ≡ Out
