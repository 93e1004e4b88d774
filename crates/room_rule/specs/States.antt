-- What is so of every state that the rule allows, by all that happened up to then.
use Rattle.std.specs.Prelude.{◌≡◌, ℕ, Option, Some, List, reverse}
use Rattle.atomic_table.specs.Table.{State}
use Rattle.room_core.specs.declared.phases.Phase.TheVariants.{Inside, Exiting}
use Rattle.room_core.specs.Counters.{IsBounded}
use Rattle.room_core.specs.Occupants.{Occupies}
use Rattle.room_core.specs.Order.{trace_of}
use Rattle.room_core.specs.Runs.{Moment}
use Rattle.room_rule.specs.Use.{IsAt, Meaning}
use Rattle.room_rule.specs.Rule.{Ruled}
use Rattle.room_rule.specs.declared.rule.Plan.{Plan}
use Rattle.room_rule.specs.declared.views.Role.TheVariants.{Pass}
use Rattle.room_rule.specs.declared.views.Shown.{Shown}

module _ {X S V : Type 0} (M : Meaning X S V) (rooms : ℕ) where
  -- what happened up to each state that the rule allows is so, in its order
  abbrev pub InEveryState : (ℕ → List Moment → Type 0) → Type 0
  InEveryState P = (k : Plan X) (s : State (Option S) (Shown V)) (r : Ruled M rooms k s)
      → P rooms (reverse r.world.history)

  -- the seat is a caller's, which shows that it is inside the room in the turn
  pub record ShowsInside (s : State (Option S) (Shown V)) (v : Shown V) (room turn : ℕ) : Type 0 where
    pub id : ℕ
    pub at : IsAt s.views id v
    pub pass : v.role ≡ Pass
    pub ticket : ℕ
    pub first : Option ℕ
    pub to : ℕ
    pub phase : v.phase ≡ Inside room ticket first turn to

  -- the seat is a caller's, which shows that it has the key
  pub record ShowsKey (s : State (Option S) (Shown V)) (v : Shown V) : Type 0 where
    pub id : ℕ
    pub at : IsAt s.views id v
    pub pass : v.role ≡ Pass
    pub room : ℕ
    pub turn : ℕ
    pub phase : v.phase ≡ Exiting room turn

  -- who shows that it is inside a room occupies it
  abbrev pub InsidersOccupy : Type 0
  InsidersOccupy = (k : Plan X) (s : State (Option S) (Shown V)) (r : Ruled M rooms k s)
      (v : Shown V) (room turn : ℕ)
      → ShowsInside s v room turn
      → Occupies (trace_of (reverse r.world.history)) v.who room

  -- any two that show at one moment that they are inside are in one room, in one turn
  abbrev pub OneRoom : Type 0
  OneRoom = (k : Plan X) (s : State (Option S) (Shown V)) (r : Ruled M rooms k s)
      (v w : Shown V) (room turn other when : ℕ)
      → ShowsInside s v room turn
      → ShowsInside s w other when
      → (room ≡ other) × (turn ≡ when)

  -- while somebody shows that it has the key nobody occupies a room
  abbrev pub NoneByTheKey : Type 0
  NoneByTheKey = (k : Plan X) (s : State (Option S) (Shown V)) (r : Ruled M rooms k s)
      (v : Shown V) (c room : ℕ)
      → ShowsKey s v
      → Occupies (trace_of (reverse r.world.history)) c room → ⊥

  -- no counter comes near its end
  abbrev pub IsBoundedAlways : Type 0
  IsBoundedAlways = (k : Plan X) (s : State (Option S) (Shown V)) (r : Ruled M rooms k s)
      → IsBounded r.world.state

  -- who shows that it is inside shows the turn of its first look
  abbrev pub InsidersHaveLooked : Type 0
  InsidersHaveLooked = (k : Plan X) (s : State (Option S) (Shown V)) (r : Ruled M rooms k s)
      (v : Shown V) (room turn : ℕ) (i : ShowsInside s v room turn)
      → (seen : ℕ) × (i.first ≡ Some seen)
