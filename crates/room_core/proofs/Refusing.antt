-- An act is refused exactly where the table of refusals says so.
use Rattle.std.proofs.Common.{◌≡◌, ℕ, ◌^◌, ◌<◌, true, false, length, get_or, Some, None, Result, Ok, Err, IfErr, refl, sym, ap, ◌∙◌, subst, eqb, ltb}
use Rattle.std.proofs.lemmas.Bool.{cond-true, cond-false, cond_both, ltb-true, ltb-false, eqb-true, lt-ltb, le-ltb, eq-eqb}
use Rattle.room_core.specs.declared.acts.Act.{Act}
use Rattle.room_core.specs.declared.acts.Act.TheVariants.{Draw, Step, Leave}
use Rattle.room_core.specs.declared.acts.Refused.{Refused}
use Rattle.room_core.specs.declared.acts.Refused.TheVariants.{NoCaller, NoRoom, NotFree, NotIn, Stuck, Spent}
use Rattle.room_core.specs.declared.items.Event.{Event}
use Rattle.room_core.specs.declared.phases.Phase.{Phase}
use Rattle.room_core.specs.declared.phases.Phase.TheVariants.{Out, Inside, Passing}
use Rattle.room_core.specs.Machine.{State, Row, phase_of, stepping, or_stuck, drawing, drawing_from, leaving_from, acting, row_of}
use Rattle.room_core.specs.Core.{event_of}
use Rattle.room_core.specs.Refusals.{is_out, is_inside, is_resting, Refuses}

module _ (s : State) (c : ℕ) where
  -- whichever refusal it is, the table has it
  abbrev Fits : Act → Result Row Refused → Type 0
  Fits act r = IfErr r (Refuses s c act)

  draw_fits : (r : ℕ) (p : Phase) → c < length s.phases → r < length s.words.wait → phase_of s c ≡ p
      → Fits (Draw r) (drawing_from s c r p)
  draw_fits r Out caller room e =
      cond_both (eqb (get_or s.draws c 0) (2 ^ 48)) (Err Spent) (Ok (drawing s.words r))
      (Fits (Draw r))
      (λ full. (caller, room, ap is_out e, eqb-true (get_or s.draws c 0) (2 ^ 48) full)) (λ _. tt)
  draw_fits r p caller room e = (caller, room, ap is_out e)

  step_fits : (p : Phase) → c < length s.phases → phase_of s c ≡ p
      → Fits Step (or_stuck (stepping s.words c p))
  step_fits Out caller e = (caller, refl, ap is_resting e)
  step_fits (Inside room ticket first turn to) caller e = (caller, refl, ap is_resting e)
  step_fits (Passing turn None) caller e = tt
  step_fits (Passing turn (Some k)) caller e = tt
  step_fits p caller e = tt

  leave_fits : (p : Phase) → c < length s.phases → phase_of s c ≡ p
      → Fits Leave (leaving_from s c p)
  leave_fits (Inside room ticket first turn to) caller e = tt
  leave_fits p caller e = (caller, refl, ap is_inside e)

  acting_fits : (act : Act) → c < length s.phases → Fits act (acting s c (phase_of s c) act)
  acting_fits (Draw r) caller =
      cond_both (ltb r (length s.words.wait)) (drawing_from s c r (phase_of s c)) (Err NoRoom)
      (Fits (Draw r))
      (λ lt. draw_fits r (phase_of s c) caller (ltb-true r (length s.words.wait) lt) refl)
      (λ ge. (caller, ltb-false r (length s.words.wait) ge))
  acting_fits Step caller = step_fits (phase_of s c) caller refl
  acting_fits Leave caller = leave_fits (phase_of s c) caller refl

  row_fits : (act : Act) → Fits act (row_of s c act)
  row_fits act =
      cond_both (ltb c (length s.phases)) (acting s c (phase_of s c) act) (Err NoCaller) (Fits act)
      (λ lt. acting_fits act (ltb-true c (length s.phases) lt))
      (λ ge. ltb-false c (length s.phases) ge)

  -- and where the table has a refusal, it comes
  of_caller : (act : Act) (r : Result Row Refused) → c < length s.phases
      → acting s c (phase_of s c) act ≡ r → row_of s c act ≡ r
  of_caller act r caller e =
      cond-true (ltb c (length s.phases)) (acting s c (phase_of s c) act) (Err NoCaller)
      (lt-ltb c (length s.phases) caller)
      ∙ e

  of_room : (r : ℕ) (x : Result Row Refused) → r < length s.words.wait
      → drawing_from s c r (phase_of s c) ≡ x → acting s c (phase_of s c) (Draw r) ≡ x
  of_room r x room e =
      cond-true (ltb r (length s.words.wait)) (drawing_from s c r (phase_of s c)) (Err NoRoom)
      (lt-ltb r (length s.words.wait) room)
      ∙ e

  not_free : (r : ℕ) (p : Phase) → is_out p ≡ false → drawing_from s c r p ≡ Err NotFree
  not_free r Out e = absurd (cc)
  not_free r p e = refl

  spent : (r : ℕ) (p : Phase) → is_out p ≡ true → get_or s.draws c 0 ≡ 2 ^ 48
      → drawing_from s c r p ≡ Err Spent
  spent r Out e full =
      cond-true (eqb (get_or s.draws c 0) (2 ^ 48)) (Err Spent) (Ok (drawing s.words r))
      (eq-eqb (get_or s.draws c 0) (2 ^ 48) full)
  spent r p e full = absurd (cc)

  not_in : (p : Phase) → is_inside p ≡ false → leaving_from s c p ≡ Err NotIn
  not_in (Inside room ticket first turn to) e = absurd (cc)
  not_in p e = refl

  stuck : (p : Phase) → is_resting p ≡ true → or_stuck (stepping s.words c p) ≡ Err Stuck
  stuck Out e = refl
  stuck (Inside room ticket first turn to) e = refl
  stuck p e = absurd (cc)

  refused : (act : Act) (why : Refused) → Refuses s c act why → row_of s c act ≡ Err why
  refused act NoCaller h =
      cond-false (ltb c (length s.phases)) (acting s c (phase_of s c) act) (Err NoCaller)
      (le-ltb c (length s.phases) h)
  refused (Draw r) NoRoom h =
      of_caller (Draw r) (Err NoRoom) h.0
      (cond-false (ltb r (length s.words.wait)) (drawing_from s c r (phase_of s c)) (Err NoRoom)
      (le-ltb r (length s.words.wait) h.1))
  refused (Draw r) NotFree h =
      of_caller (Draw r) (Err NotFree) h.0
      (of_room r (Err NotFree) h.1 (not_free r (phase_of s c) h.2))
  refused (Draw r) Spent h =
      of_caller (Draw r) (Err Spent) h.0
      (of_room r (Err Spent) h.1 (spent r (phase_of s c) h.2 h.3))
  refused act NotIn h =
      subst (λ a. row_of s c a ≡ Err NotIn) (sym h.1)
      (of_caller Leave (Err NotIn) h.0 (not_in (phase_of s c) h.2))
  refused act Stuck h =
      subst (λ a. row_of s c a ≡ Err Stuck) (sym h.1)
      (of_caller Step (Err Stuck) h.0 (stuck (phase_of s c) h.2))
  refused act why h = absurd h.1

-- the answer of an act is a refusal exactly where the table has it
answers : (s : State) (c : ℕ) (act : Act) (why : Refused) (r : Result Row Refused)
    → (r ≡ Err why → Refuses s c act why) → (event_of r ≡ Err why → Refuses s c act why)
answers s c act why (Ok row) fits e = absurd (cc)
answers s c act why (Err other) fits e = fits (cc)

pub refuses : (s : State) (c : ℕ) (act : Act) (answer : Result Event Refused)
    → answer ≡ event_of (row_of s c act) → (why : Refused)
    → (answer ≡ Err why → Refuses s c act why) × (Refuses s c act why → answer ≡ Err why)
refuses s c act answer is why = (
  λ e.
      answers s c act why (row_of s c act) (λ r. subst (Fits s c act) r (row_fits s c act))
      (sym is ∙ e),
  λ h. is ∙ ap event_of (refused s c act why h),
)
