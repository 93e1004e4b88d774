-- What the step of each row leaves of a seat.
use Rattle.std.proofs.Common.{◌≡◌, ◌∙◌, ℕ, zero, suc, ◌+◌, ◌^◌, ◌<◌, ◌≤◌, Bool, true, false, cond, eqb, leb, Some, None, Option, List, ap, sym, subst, refl, arith}
use Rattle.atomic_table.specs.declared.shared.Seat.{Seat}
use Rattle.room_core.specs.declared.acts.Act.TheVariants.{Step}
use Rattle.room_core.specs.declared.items.Opening.{Opening}
use Rattle.room_core.specs.declared.phases.Phase.{Phase}
use Rattle.room_core.specs.declared.phases.Phase.TheVariants.{Looking, Glancing, Seizing, Counting, Admitting, Turning, Inside}
use Rattle.room_core.specs.Moves.{Move, move, looking_move, glancing_move, seizing_move, counting_move, admitting_move, turning_move, let_in}
use Rattle.room_core.specs.Active.{turn_of, code_of, seen}
use Rattle.room_rule.specs.Use.{Meaning}
use Rattle.room_rule.specs.Openings.{IsCovered}
use Rattle.room_rule.specs.View.{moved}
use Rattle.room_rule.specs.Told.{Seated, ComesIn, Looks, Arrives, stepped_by}
use Rattle.room_rule.specs.declared.views.Shown.{Shown}
use Rattle.room_gate.specs.Rows.{Goes, looked, glanced, seized, counted, admitted, turned_in}

module _ {X S V : Type 0} (M : Meaning X S V) (m : ℕ) (a b : Seat (Option S) (Shown V)) (n : ℕ)
    (same : b.table_id ≡ a.table_id) (told : stepped_by M m a.me n b.me) where
  by_phase : (p : Phase) (mv : Move) → a.me.0.phase ≡ p → move m a.me.0.who p ≡ Some mv
      → move m a.me.0.who a.me.0.phase ≡ Some mv
  by_phase p mv at by = ap (λ (z : Phase). move m a.me.0.who z) at ∙ by

  -- a step after which nobody is inside that was not
  pub quietly : (p : Phase) (mv : Move) → a.me.0.phase ≡ p → move m a.me.0.who p ≡ Some mv
      → ((all : List Opening) → Arrives M m (mv.next n) a.me.0.user a.me.0.seen all
      → all ≡ a.me.0.seen) → Goes a b (moved a.me.0 Step mv n a.me.0.seen)
  quietly p mv at by kept =
      let t = told mv (by_phase p mv at by) in (
        same,
        t.1 ∙ (let e : t.0 ≡ a.me.0.seen = kept t.0 t.3 in
            λ i. (moved a.me.0 Step mv n (e i), a.me.1)),
      )

  -- of the number that it found
  found : (p : Phase) (mv : Move) → a.me.0.phase ≡ p → move m a.me.0.who p ≡ Some mv
      → Looks p a.me.0.known n
  found p mv at by = let t = told mv (by_phase p mv at by) in
      subst (λ (z : Phase). Looks z a.me.0.known n) at t.2

  pub one_of : (c : Bool) (p q : Phase) (all : List Opening)
      → (Arrives M m p a.me.0.user a.me.0.seen all → all ≡ a.me.0.seen)
      → (Arrives M m q a.me.0.user a.me.0.seen all → all ≡ a.me.0.seen)
      → Arrives M m (cond c p q) a.me.0.user a.me.0.seen all → all ≡ a.me.0.seen
  one_of true p q all x y = x
  one_of false p q all x y = y

  pub look_goes : (room ticket : ℕ) (first : Option ℕ) → a.me.0.phase ≡ Looking room ticket first
      → Goes a b (looked room ticket first n a.me.0)
  look_goes room ticket first at =
      quietly (Looking room ticket first) (looking_move room ticket first) at refl
      (λ all. one_of (leb ticket n) (Turning room ticket first n) (Glancing room ticket first) all
      (λ e. e) (λ e. e))

  pub look_told : (room ticket : ℕ) (first : Option ℕ) → a.me.0.phase ≡ Looking room ticket first
      → IsCovered a.me.0.known room ticket → ticket ≤ n
  look_told room ticket first at =
      found (Looking room ticket first) (looking_move room ticket first) at refl

  pub glance_goes : (room ticket : ℕ) (first : Option ℕ) → a.me.0.phase ≡ Glancing room ticket first
      → Goes a b (glanced room ticket first n a.me.0)
  glance_goes room ticket first at =
      quietly (Glancing room ticket first) (glancing_move room ticket first) at refl
      (λ all. one_of (eqb (code_of n) 0) (Seizing room ticket (seen first n) n)
      (Looking room ticket (seen first n)) all (λ e. e) (λ e. e))

  pub glance_small : (room ticket : ℕ) (first : Option ℕ)
      → a.me.0.phase ≡ Glancing room ticket first → n < 2 ^ 60
  glance_small room ticket first at =
      found (Glancing room ticket first) (glancing_move room ticket first) at refl

  pub seize_goes : (room ticket idle : ℕ) (first : Option ℕ)
      → a.me.0.phase ≡ Seizing room ticket first idle
      → Goes a b (seized room ticket first idle n a.me.0)
  seize_goes room ticket idle first at =
      quietly (Seizing room ticket first idle) (seizing_move room ticket first idle) at refl
      (λ all. one_of (eqb n idle) (Counting room ticket first (turn_of idle + 1))
      (Looking room ticket first) all (λ e. e) (λ e. e))

  pub count_goes : (room ticket turn : ℕ) (first : Option ℕ)
      → a.me.0.phase ≡ Counting room ticket first turn
      → Goes a b (counted room ticket first turn n a.me.0)
  count_goes room ticket turn first at =
      quietly (Counting room ticket first turn) (counting_move room ticket first turn) at refl
      (λ all e. e)

  -- what a step by which a caller comes in leaves
  pub record EntersBy (room ticket turn to : ℕ) (first : Option ℕ) (v : Shown V) : Type 0 where
    pub goes : Goes a b v
    pub comes_in : (f : ℕ) → first ≡ Some f
        → ComesIn m room ticket turn to f a.me.0.seen b.me.0.seen
    pub low : M.last a.me.0.user < turn
    pub no_slot : M.keeps a.me.0.user ≡ None

  seen_is : (v : Shown V) → b.me ≡ (v, a.me.1) → v.seen ≡ b.me.0.seen
  seen_is v e = ap (λ (z : Seated S V). z.0.seen) (sym e)

  enters_by : (p : Phase) (mv : Move) (room ticket turn to : ℕ) (first : Option ℕ)
      → a.me.0.phase ≡ p → move m a.me.0.who p ≡ Some mv
      → mv.next n ≡ Inside room ticket first turn to
      → EntersBy room ticket turn to first (moved a.me.0 Step mv n b.me.0.seen)
  enters_by p mv room ticket turn to first at by next =
      let t = told mv (by_phase p mv at by) in
      let e : t.0 ≡ b.me.0.seen = seen_is (moved a.me.0 Step mv n t.0) t.1 in
      let arrives : Arrives M m (Inside room ticket first turn to) a.me.0.user a.me.0.seen t.0 =
      subst (λ (z : Phase). Arrives M m z a.me.0.user a.me.0.seen t.0) next t.3 in
      record {
        goes = (same, t.1 ∙ (λ i. (moved a.me.0 Step mv n (e i), a.me.1)));
        comes_in = λ f q. subst (ComesIn m room ticket turn to f a.me.0.seen) e (arrives.0 f q);
        low = arrives.1;
        no_slot = arrives.2;
      }

  pub turn_enters : (room ticket to : ℕ) (first : Option ℕ)
      → a.me.0.phase ≡ Turning room ticket first to
      → EntersBy room ticket (turn_of n) to (seen first n)
      (turned_in room ticket first to n b.me.0.seen a.me.0)
  turn_enters room ticket to first at =
      enters_by (Turning room ticket first to)
      (turning_move a.me.0.who room ticket first to) room ticket (turn_of n) to
      (seen first n) at refl refl

  let_in_is : (room ticket turn to : ℕ) (first : Option ℕ) → 0 < ticket
      → let_in room ticket first turn to ≡ Inside room ticket first turn to
  let_in_is room zero turn to first h = absurd (omega arith)
  let_in_is room (suc ticket) turn to first h = refl

  pub admit_enters : (room ticket turn to : ℕ) (first : Option ℕ) → 0 < ticket
      → a.me.0.phase ≡ Admitting room ticket first turn to
      → EntersBy room ticket turn to first (admitted room ticket first turn to b.me.0.seen a.me.0)
  admit_enters room ticket turn to first more at =
      let is = let_in_is room ticket turn to first more in
      let e = enters_by (Admitting room ticket first turn to)
      (admitting_move a.me.0.who room ticket first turn to) room ticket turn to first at refl is in
      record {
        goes = (
          same,
          e.goes.1
              ∙ (λ i. (record a.me.0 { phase = is i; seen = b.me.0.seen }, a.me.1)),
        );
        comes_in = e.comes_in;
        low = e.low;
        no_slot = e.no_slot;
      }
