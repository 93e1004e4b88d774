-- A step of the table that is an act of the protocol.
use Rattle.std.proofs.Common.{◌≡◌, ℕ, Bool, true, false, cond, Some, List, get_or, sym, refl, ap, ◌∙◌, subst}
use Rattle.atomic_table.specs.Table.{keeps, stepped, Allows}
use Rattle.room_core.specs.declared.acts.Act.{Act}
use Rattle.room_core.specs.declared.acts.Act.TheVariants.{Step}
use Rattle.room_core.specs.declared.items.Opening.{Opening}
use Rattle.room_core.specs.declared.phases.Phase.{Phase}
use Rattle.room_core.specs.declared.phases.Phase.TheVariants.{Exiting}
use Rattle.room_core.specs.Words.{HasWord, held, place}
use Rattle.room_core.specs.Moves.{Move, move, value_of}
use Rattle.room_core.specs.Runs.{happens}
use Rattle.room_core.specs.Trace.{trace}
use Rattle.room_core.specs.Trace.{since, all_opened}
use Rattle.room_core.specs.Gate.{gate}
use Rattle.room_core.specs.declared.items.Item.{Item}
use Rattle.room_core.proofs.Listed.{IsApt}
use Rattle.room_core.proofs.Facts.{step_row}
use Rattle.room_core.proofs.Late.{same_both}
use Rattle.std.proofs.Common.{eqb, arith}
use Rattle.room_rule.specs.Use.{IsAt, Meaning, ShowsWords}
use Rattle.room_rule.specs.Openings.{StartsWith}
use Rattle.room_rule.specs.View.{moved}
use Rattle.room_rule.specs.Rule.{is_waiting, Ruled}
use Rattle.room_rule.specs.Told.{Seated, Looks, Arrives, stepped_by, IsEvent, IsNoEvent}
use Rattle.room_rule.specs.declared.rule.Plan.{Plan}
use Rattle.room_rule.specs.declared.views.Role.TheVariants.{Pass}
use Rattle.room_rule.specs.declared.views.Shown.{Shown}
use Rattle.room_rule.proofs.Acts.{then_is, Table, Rule, Mine, mine, is_one, Owes, word_is, acted_on}

-- no key is taken in this phase
abbrev is_key : Phase → Bool
is_key (Exiting room turn) = true
is_key _ = false

not_both : true ≡ false → ⊥
not_both e = cc

pub no_key : (p : Phase) (room turn : ℕ) → p ≡ Exiting room turn → is_key p ≡ false → ⊥
no_key p room turn e f = not_both (sym (ap is_key e) ∙ f)

pub neither_key : (b : Bool) (p q : Phase) → is_key p ≡ false → is_key q ≡ false
    → is_key (cond b p q) ≡ false
neither_key true p q x y = x
neither_key false p q x y = y

module _ {X S V : Type 0} (M : Meaning X S V) (m : ℕ) (k : Plan X) where
  -- what a step owes to be the act
  pub record Deal (s : Table M m k) (r : Rule M m k s) (me : Seated S V) (act : Act) (mv : Move)
      (change : ℕ → ℕ) (then : ℕ → Seated S V → Type 0) : Type 0 where
    pub seen : List Opening
    pub owes : Owes M m k s r me.0 act mv seen
    pub same : change (held r.world.state.words mv.word) ≡ value_of mv.kind
        (held r.world.state.words mv.word)
    pub kept : List ℕ
    pub shows : (room turn : ℕ) → mv.next (held r.world.state.words mv.word) ≡ Exiting room turn
        → ShowsWords M k.usage kept r.content.words
    pub tells : then (held r.world.state.words mv.word)
        (record (moved me.0 act mv (held r.world.state.words mv.word) seen) { kept = kept }, me.1)

  pub event_at : (slots id : ℕ) (me : Seated S V) (act : Act) (mv : Move) (change : ℕ → ℕ)
      (then : ℕ → Seated S V → Type 0) → me.0.role ≡ Pass
      → ((s : Table M m k) (r : Rule M m k s) → IsAt s.views id me.0 → Mine M m k s r id me.0
      → Deal s r me act mv change then)
      → IsEvent M m k slots id me (place m mv.word) change then act
  event_at slots id me act mv change then is deal s r _ at _ =
      let d = deal s r at (mine M m k s r id me.0 at is) in
      let n : ℕ = held r.world.state.words mv.word in
      let now : Shown V = record (moved me.0 act mv n d.seen) { kept = d.kept } in
      let e : get_or s.words (place m mv.word) 0 ≡ n = word_is M m k s r mv d.owes.has in (
        now,
        subst (λ (z : ℕ). (after : Rule M m k (stepped s (place m mv.word) z id me.1 now keeps))
            × (after.world ≡ happens r.world (me.0.who, act)))
            (sym (ap change e ∙ d.same))
            (acted_on M m k s r id me.0 act mv d.seen d.kept me.1 at is d.owes d.shows),
        subst (λ (z : ℕ). then z (now, me.1)) (sym e) d.tells,
      )

  pub event : (slots id : ℕ) (me : Seated S V) (act : Act) (mv : Move) (change : ℕ → ℕ)
      (then : ℕ → Seated S V → Type 0) → me.0.role ≡ Pass
      → ((s : Table M m k) (r : Rule M m k s) → Mine M m k s r id me.0
      → Deal s r me act mv change then)
      → IsEvent M m k slots id me (place m mv.word) change then act
  event slots id me act mv change then is deal =
      event_at slots id me act mv change then is (λ s r _ h. deal s r h)

  -- the table allows an event at a place, and a step that is none
  pub allows_event : (slots id : ℕ) (me : Seated S V) (at place : ℕ) → at ≡ place
      → (change : ℕ → ℕ) (then : ℕ → Seated S V → Type 0) (act : Act)
      → IsEvent M m k slots id me place change then act
      → Allows (Ruled M m k) slots id me at change then
  allows_event slots id me at place is change then act event =
      subst (λ (z : ℕ). Allows (Ruled M m k) slots id me z change then) (sym is)
      (λ s r long there small. let x = event s r long there small in (x.0, keeps, tt, x.1.0, x.2))

  pub allows_no_event : (slots id : ℕ) (me : Seated S V) (at place : ℕ) → at ≡ place
      → (change : ℕ → ℕ) (then : ℕ → Seated S V → Type 0)
      → IsNoEvent M m k slots id me place change then
      → Allows (Ruled M m k) slots id me at change then
  allows_no_event slots id me at place is change then event =
      subst (λ (z : ℕ). Allows (Ruled M m k) slots id me z change then) (sym is)
      (λ s r long there small. let x = event s r long there small in
      (x.0, x.1, x.2, x.3.0, x.4))

  -- what a step that adds nothing to the trace owes
  pub quiet_owes : (s : Table M m k) (r : Rule M m k s) (id : ℕ) (v : Shown V) (p : Phase)
      (mv : Move) → Mine M m k s r id v → v.phase ≡ p → move m v.who p ≡ Some mv
      → trace (then_is r.world v.who Step mv).history ≡ trace r.world.history
      → HasWord r.world.state.words mv.word → IsApt mv.kind mv.word
      → (is_waiting (mv.next (held r.world.state.words mv.word)) ≡ true → is_waiting p ≡ true)
      → Owes M m k s r v Step mv v.seen
  quiet_owes s r id v p mv h at by still has apt waiting = record {
    by = step_row m k.callers r.few_rooms r.few_callers r.world r.reached v.who p mv
        (is_one M m k s r id v h) (h.phase ∙ at) by;
    has = has;
    apt = apt;
    starts = subst (λ (t : List Item). StartsWith (all_opened t) v.seen) (sym still) h.seen;
    lawful = subst (λ (t : List Item). M.lawful k.usage r.content (gate t)) (sym still) r.lawful;
    waits = λ f.
        let old = r.waits v.who v.user h.user (ap is_waiting (h.phase ∙ at) ∙ waiting f) in
        let low = old.last in
        let q : since v.who (then_is r.world v.who Step mv).history ≡ since v.who r.world.history =
        same_both (eqb v.who v.who) (since v.who r.world.history) in
        record { last = omega arith; may = old.may };
  }

  same_move : (a b : Move) → Some a ≡ Some b → a ≡ b
  same_move a b e = cc

  -- what a step tells
  pub tell : (me : Seated S V) (p : Phase) (n : ℕ) (mv : Move) (seen : List Opening) → me.0.phase ≡ p
      → move m me.0.who p ≡ Some mv
      → Looks p me.0.known n → Arrives M m (mv.next n) me.0.user me.0.seen seen
      → stepped_by M m me n (moved me.0 Step mv n seen, me.1)
  tell me p n mv seen at by looks arrives = λ mv' by'. subst
      (λ (q : Move). (all : List Opening)
      × ◌≡◌ {A = Seated S V} (moved me.0 Step mv n seen, me.1) (moved me.0 Step q n all, me.1)
      × Looks me.0.phase me.0.known n × Arrives M m (q.next n) me.0.user me.0.seen all)
      (same_move mv mv' (sym (ap (λ (z : Phase). move m me.0.who z) at ∙ by) ∙ by'))
      (seen, refl, subst (λ (z : Phase). Looks z me.0.known n) (sym at) looks, arrives)

  pub arrives_else : (b : Bool) (p q : Phase) (u : V) (old : List Opening)
      → Arrives M m p u old old → Arrives M m q u old old → Arrives M m (cond b p q) u old old
  arrives_else true p q u old x y = x
  arrives_else false p q u old x y = y
