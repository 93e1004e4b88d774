-- What a step tells the seat that makes it, and what it is to the protocol.
use Rattle.std.specs.Prelude.{◌≡◌, ℕ, ◌+◌, ◌^◌, ◌<◌, ◌≤◌, Option, Some, None, List, [], ◌∷◌, length, slice_index}
use Rattle.atomic_table.specs.Table.{State, Me, Act as SlotAct, keeps, carried_after, Valid, stepped}
use Rattle.room_core.specs.declared.acts.Act.{Act}
use Rattle.room_core.specs.declared.acts.Act.TheVariants.{Step, Leave}
use Rattle.room_core.specs.declared.items.Opening.{Opening}
use Rattle.room_core.specs.declared.phases.Phase.{Phase}
use Rattle.room_core.specs.declared.phases.Phase.TheVariants.{Looking, Glancing, Inside, Exiting}
use Rattle.room_core.specs.Moves.{Move, move, leaving_move}
use Rattle.room_core.specs.Runs.{happens}
use Rattle.room_rule.specs.Use.{IsAt, Meaning}
use Rattle.room_rule.specs.Openings.{StartsWith, latest, IsCovered, IsAdmitted}
use Rattle.room_rule.specs.View.{moved}
use Rattle.room_rule.specs.Rule.{Ruled}
use Rattle.room_rule.specs.declared.rule.Plan.{Plan}
use Rattle.room_rule.specs.declared.views.Shown.{Shown}

-- a seat's view, and the slots that it carries, each with what it holds
abbrev pub Seated : Type 0 → Type 0 → Type 0
Seated S V = Me (Option S) (Shown V)

-- what the slot holds that is carried, if one is
abbrev pub held_in : {S : Type 0} → List (ℕ × Option S) → Option (Option S)
held_in [] = None
held_in (slot ∷ others) = Some slot.1

-- the one slot that is kept is carried, and no other
abbrev pub Carries : {S : Type 0} → Option ℕ → List (ℕ × Option S) → Type 0
Carries None carried = carried ≡ []
Carries {S} (Some k) carried = (contents : Option S) × (carried ≡ (k, contents) ∷ [])

-- who comes in saw these openings, the latest of which let it in
pub record ComesIn (rooms room ticket turn to first : ℕ)
    (before after : List Opening) : Type 0 where
  pub seen : StartsWith after before
  pub room_is : (latest after).room ≡ room
  pub turn_is : (latest after).turn ≡ turn
  pub to_is : (latest after).to ≡ to
  pub admitted : IsAdmitted rooms ticket first after (latest after)

-- Of the number found: a grant is no lower than a ticket that is known to be covered, and an
-- active word is no large number.
abbrev pub Looks : Phase → List Opening → ℕ → Type 0
Looks (Looking room ticket first) known n = IsCovered known room ticket → ticket ≤ n
Looks (Glancing room ticket first) known n = n < 2 ^ 60
Looks (Exiting room turn) known n = turn < 2 ^ 57
Looks _ known n = Unit {0}

module _ {X S V : Type 0} (M : Meaning X S V) (rooms : ℕ) where
  -- of the openings seen before and after: who comes in took its last step in an earlier turn, and
  -- keeps no slot
  abbrev pub Arrives : Phase → V → List Opening → List Opening → Type 0
  Arrives (Inside room ticket first turn to) user before after =
      ((f : ℕ) → first ≡ Some f → ComesIn rooms room ticket turn to f before after)
      × (M.last user < turn)
      × (M.keeps user ≡ None)
  Arrives _ user before after = after ≡ before

  -- a step of the protocol: the view after is that of the row of the phase
  abbrev pub stepped_by : Seated S V → ℕ → Seated S V → Type 0
  stepped_by me n me' = (mv : Move) → move rooms me.0.who me.0.phase ≡ Some mv
      → (seen : List Opening)
      × (me' ≡ (moved me.0 Step mv n seen, me.1))
      × Looks me.0.phase me.0.known n
      × Arrives (mv.next n) me.0.user me.0.seen seen

-- a departure: the view after is that of its row, and who has the key shows the user words
abbrev pub left_by : {S V : Type 0} → Seated S V → ℕ → Seated S V → Type 0
left_by me n me' = (room ticket turn to : ℕ) (first : Option ℕ)
    → me.0.phase ≡ Inside room ticket first turn to
    → (n + 1 < 2 ^ 64)
    × ((kept : List ℕ)
    × (me' ≡ (
      record (moved me.0 Leave (leaving_move me.0.who room turn to) n me.0.seen) { kept = kept },
      me.1,
    )))

module _ {X S V : Type 0} (M : Meaning X S V) (m : ℕ) (k : Plan X) (slots id : ℕ)
    (me : Seated S V) (place : ℕ) (change : ℕ → ℕ) (then : ℕ → Seated S V → Type 0) where
  abbrev Table : Type 0
  Table = State (Option S) (Shown V)

  -- the table after the step, with this view of the seat, and what becomes of its slots
  abbrev pub after_step : Table → Shown V → SlotAct (Option S) → Table
  after_step s v slot =
      stepped s place (change (slice_index s.words place)) id me.1 v slot

  -- From any state that the rule allows, the step is the caller's act in the protocol, it leads to
  -- a state that the rule allows, moves no slot, and `then` holds of the number found and of the seat
  -- after it.
  abbrev pub IsEvent : Act → Type 0
  IsEvent act = (s : Table) (r : Ruled M m k s)
      → length s.homes ≡ slots
      → IsAt s.views id me.0
      → slice_index s.words place < 2 ^ 64
      → (v : Shown V)
      × ((r' : Ruled M m k (after_step s v keeps)) × (r'.world ≡ happens r.world (me.0.who, act)))
      × then (slice_index s.words place) (v, me.1)

  -- The same of a step that is no act of the protocol, and may move a slot.
  abbrev pub IsNoEvent : Type 0
  IsNoEvent = (s : Table) (r : Ruled M m k s)
      → length s.homes ≡ slots
      → IsAt s.views id me.0
      → slice_index s.words place < 2 ^ 64
      → (v : Shown V)
      × (slot : SlotAct (Option S))
      × Valid s.homes me.1 slot
      × ((r' : Ruled M m k (after_step s v slot)) × (r'.world ≡ r.world))
      × then (slice_index s.words place) (v, carried_after me.1 slot)
