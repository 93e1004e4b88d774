-- What is so of every run is so up to each state that the rule allows.
use Rattle.std.proofs.Common.{◌≡◌, ℕ, ◌∙◌, Bool, true, false, List, Option, Some, reverse, sym, ap, subst}
use Rattle.room_core.specs.declared.items.Item.{Item}
use Rattle.room_core.specs.declared.items.Opening.{Opening}
use Rattle.room_core.specs.declared.phases.Phase.{Phase}
use Rattle.room_core.specs.declared.phases.Phase.TheVariants.{Inside, Exiting}
use Rattle.room_core.specs.Gate.{inside, is_there}
use Rattle.room_core.specs.Machine.{phase_of}
use Rattle.room_core.specs.Occupants.{Occupies}
use Rattle.room_core.specs.Order.{InEveryRun, trace_of}
use Rattle.room_core.specs.Runs.{World, Moment}
use Rattle.room_core.specs.Trace.{trace, occupant}
use Rattle.room_core.proofs.Facts.{IsHeld, insider, empty_keyed, sound}
use Rattle.room_core.proofs.Invariant.{room_inside}
use Rattle.room_core.proofs.Reached.{run_bounded}
use Rattle.room_core.proofs.Firsts.{inside_looked}
use Rattle.room_core.specs.Counters.{IsBounded}
use Rattle.room_core.proofs.Order.{trace_of-reverse, occupies-reverse}
use Rattle.room_rule.specs.Use.{Meaning}
use Rattle.room_rule.specs.States.{InEveryState, ShowsInside, InsidersOccupy, OneRoom, NoneByTheKey, IsBoundedAlways, InsidersHaveLooked}
use Rattle.room_rule.specs.declared.rule.Plan.{Plan}
use Rattle.room_rule.specs.declared.views.Shown.{Shown}
use Rattle.room_rule.proofs.Acts.{Table, Rule, mine}

not_true : false ≡ true → ⊥
not_true e = cc

same_opening : (o p : Opening) → Some o ≡ Some p → o ≡ p
same_opening o p e = cc

-- a trace is held by one room, in one turn
one_held : (t : List Item) (room turn to other when until : ℕ) → IsHeld t room turn to
    → IsHeld t other when until → (room ≡ other) × (turn ≡ when)
one_held t room turn to other when until a b =
    let e = same_opening a.opening b.opening (sym a.is_last ∙ b.is_last) in (
      sym a.room_is ∙ (ap (λ (o : Opening). o.room) e ∙ b.room_is),
      sym a.turn_is ∙ (ap (λ (o : Opening). o.turn) e ∙ b.turn_is),
    )

module _ {X S V : Type 0} (M : Meaning X S V) (m : ℕ) where
  pub in_every_state : (P : ℕ → List Moment → Type 0) → InEveryRun P → InEveryState M m P
  in_every_state P all k s r =
      subst (λ (w : World). P m (reverse w.history)) r.reached.1
      (all m k.callers r.reached.0 r.few_rooms)

  -- the phase that a caller shows is its own
  phase_is : (k : Plan X) (s : Table M m k) (r : Rule M m k s) (v : Shown V) (room turn : ℕ)
      (i : ShowsInside M m s v room turn)
      → phase_of r.world.state v.who ≡ Inside room i.ticket i.first turn i.to
  phase_is k s r v room turn i = (mine M m k s r i.id v i.at i.pass).phase ∙ i.phase

  held : (k : Plan X) (s : Table M m k) (r : Rule M m k s) (v : Shown V) (room turn : ℕ)
      (i : ShowsInside M m s v room turn) → IsHeld (trace r.world.history) room turn i.to
  held k s r v room turn i =
      (insider m k.callers r.few_rooms r.few_callers r.world r.reached v.who room i.ticket turn i.to
      i.first (phase_is k s r v room turn i)).0.now

  pub insiders_occupy : InsidersOccupy M m
  insiders_occupy k s r v room turn i =
      let a = sound m k.callers r.few_rooms r.few_callers r.world r.reached in
      let t = trace r.world.history in
      subst (λ (z : List Item). Occupies z v.who room) (sym (trace_of-reverse r.world.history))
      ((occupies-reverse v.who room t).0
      (a.good.inv.occupied v.who ∙ ap room_inside (phase_is k s r v room turn i)))

  pub one_room : OneRoom M m
  one_room k s r v w room turn other when i j =
      one_held (trace r.world.history) room turn i.to other when j.to (held k s r v room turn i)
      (held k s r w other when j)

  pub none_by_the_key : NoneByTheKey M m
  none_by_the_key k s r v c room key o =
      let t = trace r.world.history in
      let phase : phase_of r.world.state v.who ≡ Exiting key.room key.turn =
      (mine M m k s r key.id v key.at key.pass).phase ∙ key.phase in
      let empty : inside t c ≡ false =
      empty_keyed m k.callers r.few_rooms r.few_callers r.world r.reached v.who key.room key.turn
      phase c in
      let there : inside t c ≡ true =
      ap is_there ((occupies-reverse c room t).1
      (subst (λ (z : List Item). Occupies z c room) (trace_of-reverse r.world.history) o)) in
      not_true (sym empty ∙ there)

  pub is_bounded_always : IsBoundedAlways M m
  is_bounded_always k s r =
      subst (λ (w : World). IsBounded w.state) r.reached.1
      (run_bounded m k.callers r.reached.0 r.few_rooms r.few_callers)

  pub insiders_have_looked : InsidersHaveLooked M m
  insiders_have_looked k s r v room turn i =
      inside_looked m k.callers r.reached.0 v.who room i.ticket turn i.to i.first
      (ap (λ (w : World). phase_of w.state v.who) r.reached.1 ∙ phase_is k s r v room turn i)
