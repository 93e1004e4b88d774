-- A text of acts is a schedule that runs, or it is refused in one way.
use Rattle.std.proofs.Common.{◌≡◌, ℕ, ◌<◌, ◌≤◌, List, length, take, slice_index_or, refl, sym, ap, subst, arith}
use Rattle.room_core.specs.declared.acts.Act.{Act}
use Rattle.room_core.specs.declared.acts.Act.TheVariants.{Draw}
use Rattle.room_core.specs.declared.acts.Refused.{Refused}
use Rattle.room_core.specs.Machine.{State, row_of}
use Rattle.room_core.specs.Runs.{run, start}
use Rattle.room_core.specs.Core.{event_of}
use Rattle.room_core.specs.Refusals.{Refuses as RefusesActOf}
use Rattle.room_core.specs.Schedule.{RefusesAct, AcceptsFirst, FirstRefused}
use Rattle.room_core.proofs.Refusing.{refuses}
use Rattle.room_script.specs.Lines.{lines_of}
use Rattle.room_script.specs.Breaks.{BreaksAt}
use Rattle.room_script.specs.Schedules.{Plan, Spells, IsSchedule}
use Rattle.rooms_program.specs.Commands.{Refuses}
use Rattle.rooms_program.specs.Schedules.{IsRunnable}
use Rattle.rooms_program.specs.Texts.{most_text}
use Rattle.command_words.specs.declared.command.Command.TheVariants.{Schedule}
use Rattle.rooms_program.specs.declared.status.Status.{Status}
use Rattle.rooms_program.specs.declared.status.Status.TheVariants as status

-- a state refuses an act for one reason
refused_once : (s : State) (c : ℕ) (act : Act) (a b : Refused) → RefusesActOf s c act a → RefusesActOf s c act b → a ≡ b
refused_once s c act a b p q =
    let one = (refuses s c act (event_of (row_of s c act)) refl a).1 p in
    let two = (refuses s c act (event_of (row_of s c act)) refl b).1 q in
    cc

-- one act is the first that is refused, and for one reason
first_once : (m n : ℕ) (acts : List (ℕ × Act)) (i j : ℕ) (a b : Refused) → FirstRefused m n acts i a → FirstRefused m n acts j b → (i ≡ j) × (a ≡ b)
first_once m n acts i j a b p q =
    let before : (x y : ℕ) (r : Refused) → AcceptsFirst m n acts y → x < y → RefusesAct m n acts x r → ⊥ = λ x y r all low h. all x r low h in
    let not_low : p.index < q.index → ⊥ = λ low. before p.index q.index a q.accepted low p.refused in
    let not_high : q.index < p.index → ⊥ = λ low. before q.index p.index b p.accepted low q.refused in
    let same : p.index ≡ q.index = omega (arith, not_low, not_high) in
    let R : ℕ → Type 0 = λ k. RefusesAct m n acts k a in
    let there = subst R same p.refused in
    let act = slice_index_or acts q.index (0, Draw 0) in
    (omega (arith, p.number, q.number, same), refused_once (run (take q.index acts) (start m n)).state act.0 act.1 a b there q.refused)

-- the first refusal of one plan is one of an equal plan
moved : (p q : Plan) (at : ℕ) (why : Refused) → p ≡ q → FirstRefused q.rooms q.callers q.acts at why → FirstRefused p.rooms p.callers p.acts at why
moved p q at why e first = let P : Plan → Type 0 = λ x. FirstRefused x.rooms x.callers x.acts at why in subst P (sym e) first

module _ (text : List ℕ) (few : length text ≤ most_text) where
  -- a text with a broken line is refused with that line
  pub broken : (line : ℕ) → ((k : ℕ) → BreaksAt IsSchedule (lines_of text) k → line ≡ k) → ((p : Plan) → Spells (lines_of text) p → ⊥)
      → (why : Status) → Refuses Schedule text why → status.Script line ≡ why
  broken line one none status.TooLong r = absurd (omega (arith, few, r))
  broken line one none (status.Script k) r = ap status.Script (one k r.breaks)
  broken line one none (status.Act at act) r = absurd (none r.plan r.spells)
  broken line one none (status.Image fault) r = absurd r
  broken line one none status.Good r = absurd r
  broken line one none status.Words r = absurd r
  broken line one none status.ReadFault r = absurd r
  broken line one none status.WriteFault r = absurd r
  broken line one none status.Memory r = absurd r

  module _ (plan : Plan) (whole : (k : ℕ) → BreaksAt IsSchedule (lines_of text) k → ⊥) (only : (p : Plan) → Spells (lines_of text) p → plan ≡ p) where
    -- a schedule of which the core refuses an act is refused with that act
    pub stopped : (at : ℕ) (act : Refused) → FirstRefused plan.rooms plan.callers plan.acts at act
        → (why : Status) → Refuses Schedule text why → status.Act at act ≡ why
    stopped at act first status.TooLong r = absurd (omega (arith, few, r))
    stopped at act first (status.Script k) r = absurd (whole k r.breaks)
    stopped at act first (status.Act there other) r =
        let once = first_once plan.rooms plan.callers plan.acts at there act other first (moved plan r.plan there other (only r.plan r.spells) r.first) in
        let e = once.0 in let f = once.1 in cc
    stopped at act first (status.Image fault) r = absurd r
    stopped at act first status.Good r = absurd r
    stopped at act first status.Words r = absurd r
    stopped at act first status.ReadFault r = absurd r
    stopped at act first status.WriteFault r = absurd r
    stopped at act first status.Memory r = absurd r

    -- and is not accepted
    pub not_runnable : (at : ℕ) (act : Refused) → FirstRefused plan.rooms plan.callers plan.acts at act → IsRunnable text → ⊥
    not_runnable at act first r =
        let P : Plan → Type 0 = λ p. FirstRefused p.rooms p.callers p.acts at act in
        let there = subst P (only r.plan r.spells) first in
        r.accepted there.index act there.there there.refused

    -- a schedule of which the core accepts each act is not refused
    pub unrefused : AcceptsFirst plan.rooms plan.callers plan.acts (length plan.acts) → (why : Status) → Refuses Schedule text why → ⊥
    unrefused all status.TooLong r = omega (arith, few, r)
    unrefused all (status.Script k) r = whole k r.breaks
    unrefused all (status.Act at act) r =
        let first = moved plan r.plan at act (only r.plan r.spells) r.first in all first.index act first.there first.refused
    unrefused all (status.Image fault) r = r
    unrefused all status.Good r = r
    unrefused all status.Words r = r
    unrefused all status.ReadFault r = r
    unrefused all status.WriteFault r = r
    unrefused all status.Memory r = r
