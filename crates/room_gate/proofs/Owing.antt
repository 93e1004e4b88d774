-- What a call on the table owes at a seat of the rooms: the seat is of this table, the word is there, and
-- the rule allows what is done.
use Rattle.std.proofs.Common.{◌≡◌, ◌∙◌, ℕ, ◌+◌, ◌*◌, ◌<◌, ◌≤◌, [], Option, ap, sym, arith}
use Rattle.atomic_table.specs.Table.{Allows, Splits, Joins}
use Rattle.atomic_table.specs.declared.shared.Seat.{Seat}
use Rattle.room_core.specs.declared.acts.Act.{Act}
use Rattle.room_core.specs.declared.acts.Act.TheVariants.{Step}
use Rattle.room_rule.specs.Use.{Meaning, user_place}
use Rattle.room_rule.specs.Rule.{Ruled}
use Rattle.room_rule.specs.Told.{Seated, IsEvent, IsNoEvent, stepped_by}
use Rattle.room_rule.specs.declared.views.Shown.{Shown}
use Rattle.room_rule.proofs.Events.{allows_event, allows_no_event}
use Rattle.room_gate.specs.Shows.{Site}
use Rattle.room_gate.specs.Stepping.{Permits}
use Rattle.room_gate.specs.RoomsModel.{IsSetUp, site_of}
use Rattle.room_gate.specs.declared.rooms.Rooms.TheInside as rooms
use Rattle.room_gate.proofs.UserWords.{allowed}

module _ {X S V : Type 0} (M : Meaning X S V) (m : ℕ) (r : rooms.Inside X V S) (is : IsSetUp m M r)
    (site : Site X) (view : site_of r ≡ site) where
  -- the seat is of this table
  pub of_table : (seat : Seat (Option S) (Shown V)) → seat.table_id ≡ site.site
      → seat.table_id ≡ r.table.shared.table_id
  of_table seat own = own ∙ ap (λ (s : Site X). s.site) (sym view)

  module _ (seat : Seat (Option S) (Shown V)) (own : seat.table_id ≡ site.site) where
    -- a step of the seat on the word at this place
    abbrev pub Owed : ℕ → (ℕ → ℕ) → (ℕ → Seated S V → Type 0) → Type 0
    Owed at change then =
        (seat.table_id ≡ r.table.shared.table_id) × (at < r.table.shared.table_id.words)
        × Allows (Ruled M m r.table.shared.key) r.table.shared.table_id.slots seat.id seat.me at change then

    -- an act of the protocol
    pub of_act : (at place : ℕ) → at ≡ place → place ≤ 3 * m → (change : ℕ → ℕ)
        → (then : ℕ → Seated S V → Type 0) (act : Act)
        → IsEvent M m r.table.shared.key r.table.shared.table_id.slots seat.id seat.me place change then act
        → Owed at change then
    of_act at place there low change then act event = (
      of_table seat own,
      omega (arith, is.words, there, low),
      allows_event M m r.table.shared.key r.table.shared.table_id.slots seat.id seat.me at place there
          change then act event,
    )

    -- a load and a store by which the caller goes on in the protocol
    pub of_load : (at place : ℕ) → at ≡ place → place ≤ 3 * m
        → IsEvent M m r.table.shared.key r.table.shared.table_id.slots seat.id seat.me place (λ n. n)
        (λ n after. stepped_by M m seat.me n after) Step
        → Owed at (λ n. n) (λ n after. stepped_by M m seat.me n after)
    of_load at place there low event =
        of_act at place there low (λ n. n) (λ n after. stepped_by M m seat.me n after) Step event

    pub of_store : (value at place : ℕ) → at ≡ place → place ≤ 3 * m
        → IsEvent M m r.table.shared.key r.table.shared.table_id.slots seat.id seat.me place (λ _. value)
        (λ _ after. stepped_by M m seat.me value after) Step
        → Owed at (λ _. value) (λ _ after. stepped_by M m seat.me value after)
    of_store value at place there low event =
        of_act at place there low (λ _. value) (λ _ after. stepped_by M m seat.me value after) Step event

    -- a step that is no act
    pub of_no_act : (at place : ℕ) → at ≡ place → place ≤ 3 * m → (change : ℕ → ℕ)
        → (then : ℕ → Seated S V → Type 0)
        → IsNoEvent M m r.table.shared.key r.table.shared.table_id.slots seat.id seat.me place change then
        → Owed at change then
    of_no_act at place there low change then event = (
      of_table seat own,
      omega (arith, is.words, there, low),
      allows_no_event M m r.table.shared.key r.table.shared.table_id.slots seat.id seat.me at place there
          change then event,
    )

    -- a step on a user word
    pub of_user : (word : ℕ) → word < M.words site.usage → (at : ℕ) → at ≡ user_place m word
        → (change : ℕ → ℕ) (then : ℕ → Seated S V → Type 0)
        → Permits M m site seat.me word change then → Owed at change then
    of_user word there at place change then may =
        let words = ap (λ (s : Site X). M.words s.usage) view in (
          of_table seat own,
          omega (arith, is.words, words, there, place),
          allowed M m r is site view r.table.shared.table_id.slots seat.id seat.me word at place change then may,
        )

    -- its view is cut in two
    pub of_split : (left right : Shown V) → Splits (Ruled M m r.table.shared.key) seat.id seat.me.0 left right
        → (seat.table_id ≡ r.table.shared.table_id) × (0 < r.table.shared.table_id.words)
        × Splits (Ruled M m r.table.shared.key) seat.id seat.me.0 left right
    of_split left right splits = (of_table seat own, omega (arith, is.words), splits)

    -- it takes in the view of another seat
    pub of_join : (other : Seat (Option S) (Shown V)) → other.table_id ≡ site.site → other.me.1 ≡ []
        → (both spent : Shown V)
        → Joins (Ruled M m r.table.shared.key) seat.id seat.me.0 other.id other.me.0 both spent
        → (seat.table_id ≡ r.table.shared.table_id) × (other.table_id ≡ r.table.shared.table_id)
        × (other.me.1 ≡ []) × (0 < r.table.shared.table_id.words)
        × Joins (Ruled M m r.table.shared.key) seat.id seat.me.0 other.id other.me.0 both spent
    of_join other own_other none both spent joins =
        (of_table seat own, of_table other own_other, none, omega (arith, is.words), joins)
