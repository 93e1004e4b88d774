-- Who drew sees only later openings.
use Rattle.std.proofs.Common.{◌≡◌, ℕ, ◌+◌, ◌<◌, ◌≤◌, Bool, true, false, cond, List, [], ◌∷◌, length, get_or, set, Option, Some, None, refl, sym, subst, arith, eqb}
use Rattle.std.proofs.lemmas.Bool.{cond_both, cond-false, ne_eqb}
use Rattle.room_core.specs.declared.acts.Act.{Act}
use Rattle.room_core.specs.declared.phases.Phase.{Phase}
use Rattle.room_core.specs.declared.phases.Phase.TheVariants.{Out, Looking}
use Rattle.room_core.specs.declared.items.Item.{Item}
use Rattle.room_core.specs.declared.acts.Act.TheVariants.{Draw, Step, Leave}
use Rattle.room_core.specs.declared.items.Item.TheVariants.{Opened, Entered, Left, ExitBegun, ExitEnded}
use Rattle.room_core.specs.Words.{Words, touched}
use Rattle.room_core.specs.Machine.{Row}
use Rattle.room_core.specs.Trace.{trace, onto, openings, since, since_by}
use Rattle.room_core.specs.Runs.{Moment}
use Rattle.room_core.proofs.Lists.{each_set}
use Rattle.room_core.proofs.Invariant.{ticket_of, room_of, phase, Inv}
use Rattle.room_core.proofs.Went.{Went, drawn, found, missed, saw_idle, saw_busy, won, lost, counted_wait, opened, opened_in, entered, left, left_last, exited, chose, ended, went_on, scanned, passed, rested}
use Rattle.room_core.proofs.Told.{moment}

-- an admitted ticket was drawn before the last opening
abbrev pub LateAt : List ℕ → ℕ → ℕ → Phase → Type 0
LateAt grant count drawn_at p =
    0 < ticket_of p → ticket_of p ≤ get_or grant (room_of p) 0 → drawn_at < count

pub record Late (s : Words) (ps : List Phase) (history : List Moment) : Type 0 where
  pub each : (d : ℕ) → LateAt s.grant (openings (trace history)) (since d history) (phase ps d)

-- the openings among these items
pub openings_onto : (one : Option Item) (t : List Item)
    → openings (onto one t) ≡ openings t + openings (onto one [])
openings_onto None t = omega arith
openings_onto (Some (Opened turn r from to)) t = omega arith
openings_onto (Some (Entered c r)) t = omega arith
openings_onto (Some (Left c)) t = omega arith
openings_onto (Some (ExitBegun r)) t = omega arith
openings_onto (Some (ExitEnded r)) t = omega arith

pub onto_more : (one : Option Item) (t : List Item) → openings t ≤ openings (onto one t)
onto_more one t = omega (arith, openings_onto one t)

since_act : (act : Act) (history : List Moment) (old n : ℕ) → old ≤ n → openings (trace history) ≤ n
    → since_by act history old ≤ n
since_act (Draw r) history old n a b = b
since_act Step history old n a b = a
since_act Leave history old n a b = a

pub since_openings : (c : ℕ) (history : List Moment) → since c history ≤ openings (trace history)
since_openings c [] = omega arith
since_openings c (m ∷ history) =
    let old : openings (trace history) ≤ openings (trace (m ∷ history)) =
    omega (
      arith,
      onto_more m.event.one (trace history),
      onto_more m.event.two (onto m.event.one (trace history)),
    ) in
    let before : since c history ≤ openings (trace history) = since_openings c history in
    let P : ℕ → Type 0 = λ x. x ≤ openings (trace (m ∷ history)) in
    cond_both (eqb m.caller c) (since_by m.act history (since c history)) (since c history) P
    (λ _.
    since_act m.act history (since c history) (openings (trace (m ∷ history))) (omega arith) old)
    (λ _. omega arith)

pub same_both : {A : Type 0} (b : Bool) (x : A) → cond b x x ≡ x
same_both true x = refl
same_both false x = refl

late_still : (grant : List ℕ) (ps : List Phase) (count c : ℕ) (new old : ℕ → ℕ) (p : Phase)
    → c < length ps → ((d : ℕ) → new d ≡ old d) → LateAt grant count (old c) p
    → ((d : ℕ) → LateAt grant count (old d) (phase ps d)) → (d : ℕ)
    → LateAt grant count (new d) (phase (set ps c p) d)
late_still grant ps count c new old p h same here all =
    each_set (λ d q. LateAt grant count (new d) q) ps c p Out h
    (subst (λ (z : ℕ). LateAt grant count z p) (sym (same c)) here)
    (λ d _. subst (λ (z : ℕ). LateAt grant count z (phase ps d)) (sym (same d)) (all d))

-- a step that opens no room, and no caller draws by it
late_on : (c : ℕ) (s now : Words) (ps : List Phase) (history after : List Moment) (next : Phase) → c < length ps
    → now.grant ≡ s.grant → openings (trace after) ≡ openings (trace history)
    → ((d : ℕ) → since d after ≡ since d history)
    → LateAt s.grant (openings (trace history)) (since c history) next → Late s ps history
    → Late now (set ps c next) after
late_on c s now ps history after next h grants count same here k = record {
  each = rw (grants, count)
      (late_still s.grant ps (openings (trace history)) c (λ d. since d after) (λ d. since d history) next h same here k.each);
}

-- and of whose caller the next phase has the ticket of the one before
late_as : (c : ℕ) (s now : Words) (ps : List Phase) (history after : List Moment) (p next : Phase) → c < length ps
    → phase ps c ≡ p → now.grant ≡ s.grant → openings (trace after) ≡ openings (trace history)
    → ((d : ℕ) → since d after ≡ since d history)
    → (LateAt s.grant (openings (trace history)) (since c history) p
    → LateAt s.grant (openings (trace history)) (since c history) next)
    → Late s ps history → Late now (set ps c next) after
late_as c s now ps history after p next h e grants count same like k =
    late_on c s now ps history after next h grants count same
    (like (subst (LateAt s.grant (openings (trace history)) (since c history)) e (k.each c))) k

-- after an opening all were drawn before it
all_late : (now : Words) (ps : List Phase) (history after : List Moment)
    → openings (trace history) < openings (trace after) → ((d : ℕ) → since d after ≡ since d history)
    → Late now ps after
all_late now ps history after more same = record {
  each = λ d _ _. omega (arith, since_openings d history, same d, more);
}

pub late_went : (c : ℕ) (s : Words) (ps : List Phase) (history : List Moment) (p : Phase) (act : Act) (row : Row)
    → Went c s p act row → Inv s ps (trace history) → c < length ps → phase ps c ≡ p
    → Late s ps history → Late (touched s row.1.touch) (set ps c row.0) (moment c act row ∷ history)
late_went c s ps history p act row (drawn r hr) i h e k = record {
  each =
      each_set
      (λ d q. LateAt s.grant (openings (trace history)) (since d (moment c act row ∷ history)) q) ps
      c (Looking r (get_or s.wait r 0 + 1) None) Out h
      (λ z x. let g = i.granted r in absurd (omega arith))
      (λ d ne.
      subst (λ (z : ℕ). LateAt s.grant (openings (trace history)) z (phase ps d))
      (sym
      (cond-false (eqb c d) (openings (trace history)) (since d history)
      (ne_eqb c d (λ q. ne (sym q))))) (k.each d));
}
late_went c s ps history p act row (found room ticket first le) i h e k = late_as c s _ ps history _ p row.0 h e refl refl (λ d. same_both (eqb c d) (since d history)) (λ x. x) k
late_went c s ps history p act row (missed room ticket first le) i h e k = late_as c s _ ps history _ p row.0 h e refl refl (λ d. same_both (eqb c d) (since d history)) (λ x. x) k
late_went c s ps history p act row (saw_idle room ticket first z) i h e k = late_as c s _ ps history _ p row.0 h e refl refl (λ d. same_both (eqb c d) (since d history)) (λ x. x) k
late_went c s ps history p act row (saw_busy room ticket first) i h e k = late_as c s _ ps history _ p row.0 h e refl refl (λ d. same_both (eqb c d) (since d history)) (λ x. x) k
late_went c s ps history p act row (won room ticket first) i h e k = late_as c s _ ps history _ p row.0 h e refl refl (λ d. same_both (eqb c d) (since d history)) (λ x. x) k
late_went c s ps history p act row (lost room ticket first idle) i h e k = late_as c s _ ps history _ p row.0 h e refl refl (λ d. same_both (eqb c d) (since d history)) (λ x. x) k
late_went c s ps history p act row (counted_wait room ticket first turn) i h e k = late_as c s _ ps history _ p row.0 h e refl refl (λ d. same_both (eqb c d) (since d history)) (λ x. x) k
late_went c s ps history p act row (entered room ticket first to) i h e k = late_as c s _ ps history _ p row.0 h e refl refl (λ d. same_both (eqb c d) (since d history)) (λ x. x) k
late_went c s ps history p act row (opened room first turn to) i h e k =
    all_late _ _ history _ (omega arith) (λ d. same_both (eqb c d) (since d history))
late_went c s ps history p act row (opened_in room ticket first turn to) i h e k =
    all_late _ _ history _ (omega arith) (λ d. same_both (eqb c d) (since d history))
late_went c s ps history p act row went i h e k =
    late_on c s _ ps history _ row.0 h refl refl (λ d. same_both (eqb c d) (since d history)) (λ z _. absurd (omega arith)) k
