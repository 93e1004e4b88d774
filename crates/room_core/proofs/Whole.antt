-- All of it, over every run.
use Rattle.std.proofs.Common.{◌≡◌, ℕ, ◌+◌, ◌≤◌, true, false, List, [], ◌∷◌, Some, None, refl, sym, subst, inl, arith, replicate}
use Rattle.std.proofs.lemmas.List.{length-replicate}
use Rattle.room_core.specs.declared.acts.Act.{Act}
use Rattle.room_core.specs.declared.phases.Phase.{Phase}
use Rattle.room_core.specs.declared.phases.Phase.TheVariants.{Out, Inside}
use Rattle.room_core.specs.Trace.{is_exiting, trace}
use Rattle.room_core.specs.Runs.{World, happens, run, start}
use Rattle.room_core.specs.Machine.{phase_of}
use Rattle.room_core.proofs.Invariant.{is_keeper, phase}
use Rattle.room_core.proofs.Due.{DueAt, Named, Due}
use Rattle.room_core.proofs.Backward.{LawfulBack}
use Rattle.room_core.proofs.Told.{Told, Tie, tie_went}
use Rattle.room_core.proofs.Marks.{MarkedAt, MarkAt, LowAt, mark_went, lawful_went, pairs_went}
use Rattle.room_core.proofs.Went.{by_happens}
use Rattle.room_core.proofs.Apart.{Good, happens_kept, start_good, outs, zeros}
use Rattle.room_core.proofs.Bypass.{due_went, inside_due}

pub record More (m : ℕ) (w : World) : Type 0 where
  pub due : Due m w.state.words w.state.phases
  pub tie : Tie w.state.words w.state.phases w.history
  pub marks : MarkedAt w.state.words w.state.phases (trace w.history)
  pub lawful : LawfulBack w.history

pub more_kept : (m : ℕ) (w : World) (c : ℕ) (act : Act) → Good w → More m w
    → More m (happens w (c, act))
more_kept m w c act g k = by_happens w c act (More m) k (λ h row went. record {
  due =
      due_went m c w.state.words w.state.phases (trace w.history) (phase w.state.phases c) act row
      went g.inv h refl k.due;
  tie =
      tie_went c w.state.words w.state.phases w.history (phase w.state.phases c) act row went h refl
      k.tie;
  marks =
      mark_went c w.state.words w.state.phases (trace w.history) (phase w.state.phases c) act row
      went g.inv h refl k.marks;
  lawful =
      (let l =
      lawful_went c w.state.words w.state.phases w.history (phase w.state.phases c) act row
      went g.inv h refl k.marks k.tie in (
        l.0,
        l.1,
        k.lawful,
        pairs_went c w.state.words w.state.phases w.history (phase w.state.phases c) act row went
            g.inv h refl k.marks,
      ));
})

more_run : (m : ℕ) (acts : List (ℕ × Act)) (w : World) → Good w → More m w
    → Good (run acts w) × More m (run acts w)
more_run m [] w g k = (g, k)
more_run m (a ∷ acts) w g k =
    more_run m acts (happens w a) (happens_kept w a.0 a.1 g) (more_kept m w a.0 a.1 g k)

pub start_more : (rooms callers : ℕ) → More rooms (start rooms callers)
start_more rooms callers =
    let none : (P : Phase → Type 0) → P Out → (d : ℕ) → P (phase (replicate callers Out) d) =
    λ P p d. subst P (sym (outs callers d)) p in
    record {
      due = record {
        rooms = length-replicate rooms 0;
        code = omega arith;
        key = Out;
        key_is = none (λ p. is_keeper p ≡ true → p ≡ Out) (λ _. refl);
        held = λ k. absurd (cc);
        each = none (DueAt rooms 0 (replicate rooms 0) Out) (λ f e. absurd (cc));
        named = none (Named rooms) tt;
      };
      tie = record {
        drawn = λ r. sym (zeros rooms r);
        each =
            λ d.
            none (Told [] d)
            (record {
              ticket = λ z. absurd (omega arith);
              first = λ z. absurd (omega arith);
              loaded = tt;
            }) d;
      };
      marks = record {
        grants = λ r. sym (zeros rooms r);
        each = none (MarkAt 0 0 false false None) tt;
        idle = λ _. (refl, inl refl);
        open_now = λ r lt. absurd (omega (arith, lt, zeros rooms r));
        tickets = none (LowAt None) (λ o z. absurd (omega arith));
        low = λ o e. absurd (cc);
      };
      lawful = tt;
    }

pub run_lawful : (rooms callers : ℕ) (acts : List (ℕ × Act)) → rooms ≤ 7
    → LawfulBack (run acts (start rooms callers)).history
run_lawful rooms callers acts few =
    (more_run rooms acts (start rooms callers) (start_good rooms callers few) (start_more rooms callers)).1.lawful

pub run_due : (rooms callers : ℕ) (acts : List (ℕ × Act)) → rooms ≤ 7
    → (c room ticket f turn to : ℕ)
    → phase_of (run acts (start rooms callers)).state c ≡ Inside room ticket (Some f) turn to
    → (f ≤ turn) × (turn ≤ f + rooms)
run_due rooms callers acts few c room ticket f turn to e =
    let w = run acts (start rooms callers) in
    let k =
    more_run rooms acts (start rooms callers) (start_good rooms callers few)
    (start_more rooms callers) in
    inside_due rooms w.state.words (is_exiting (trace w.history)) (phase_of w.state c) k.1.due.key
    (k.0.inv.each c) (k.1.due.each c) room ticket f turn to e
