-- Each run keeps the invariant, and is apart.
use Rattle.std.proofs.Common.{◌≡◌, ℕ, zero, suc, ◌+◌, ◌*◌, ◌^◌, ◌<◌, ◌≤◌, Bool, true, false, cond, List, [], ◌∷◌, length, get_or, set, replicate, Some, None, Ok, Err, refl, sym, ap, ◌∙◌, subst, inl, inr, arith, eqb, ltb}
use Rattle.std.proofs.lemmas.Bool.{cases_lt, cond_both, ltb-true, eqb-true, eq-eqb, ne_eqb, cond-true, cond-false}
use Rattle.std.proofs.lemmas.List.{get_or_past, get_or-set_same, get_or-replicate, length-replicate}
use Rattle.std.proofs.lemmas.List.Folds.{sum_by-replicate}
use Rattle.room_core.specs.declared.acts.Act.{Act}
use Rattle.room_core.specs.declared.acts.Act.TheVariants.{Draw, Step, Leave}
use Rattle.room_core.specs.declared.phases.Phase.{Phase}
use Rattle.room_core.specs.declared.phases.Phase.TheVariants.{Out, Looking, Glancing, Seizing, Counting, Admitting, Turning, Inside, Exiting, Peering, Scanning, Passing}
use Rattle.room_core.specs.declared.items.Item.TheVariants.{Opened, Entered, Left, ExitBegun}
use Rattle.room_core.specs.declared.words.Touch.TheVariants.{Add, Swap}
use Rattle.room_core.specs.declared.words.Word.TheVariants.{Done}
use Rattle.room_core.specs.declared.acts.Refused.TheVariants.{NoCaller, NoRoom, Spent}
use Rattle.room_core.specs.Machine.{quiet, next_room, drawing, stepping, or_stuck, drawing_from, leaving_from, acting}
use Rattle.room_core.specs.Runs.{World, carried, happens, run, start}
use Rattle.room_core.specs.Active.{turn_of, pack, seen}
use Rattle.room_core.specs.Trace.{trace, occupant, last_room, is_closing, is_exiting}
use Rattle.room_core.proofs.Backward.{ApartBack}
use Rattle.room_core.proofs.Lists.{each_set, within}
use Rattle.room_core.proofs.Invariant.{is_keeper, room_inside, above, holders, phase, Keeps, Fits, IsOpen, Inv}
use Rattle.room_core.proofs.Rows.{above_zero, now_apart, fits_at, done_granted, still_at, looking_kept, glancing_kept, counting_kept, scanning_kept, peering_kept, inside_open}
use Rattle.room_core.proofs.Changes.{draw_kept, nobody_inside}
use Rattle.room_core.proofs.Keys.{seized_kept, admitted_kept, pass_to_kept, pass_idle_kept, turning_kept, exiting_kept, left_kept}

pub record Good (w : World) : Type 0 where
  pub inv : Inv w.state.words w.state.phases (trace w.history)
  pub apart : ApartBack (trace w.history)

by_bool : (b : Bool) (P : Bool → Type 0) → (b ≡ true → P true) → (b ≡ false → P false) → P b
by_bool true P t f = t refl
by_bool false P t f = f refl

stepping_kept : (w : World) (c : ℕ) (p : Phase) → Good w → c < length w.state.phases
    → phase w.state.phases c ≡ p → Good (carried w c Step (or_stuck (stepping w.state.words c p)))
stepping_kept w c Out g h e = g
stepping_kept w c (Inside room ticket first turn to) g h e = g
stepping_kept w c (Looking room ticket first) g h e = record {
  inv = looking_kept w.state.words w.state.phases (trace w.history) c room ticket first g.inv h e;
  apart = g.apart;
}
stepping_kept w c (Glancing room ticket first) g h e =
    record { inv = glancing_kept w.state.words w.state.phases (trace w.history) c room ticket first (seen first w.state.words.active) g.inv h e; apart = g.apart }
stepping_kept w c (Seizing room ticket first idle) g h e =
    by_bool (eqb w.state.words.active idle)
    (λ won.
    Good
    (carried w c Step
    (Ok
    (quiet
    (cond won (Counting room ticket first (turn_of idle + 1)) (Looking room ticket first))
    (Swap w.state.words.active (pack (turn_of idle + 1) (room + 1)) won)))))
    (λ won. record {
      inv = (let same : w.state.words.active ≡ idle = eqb-true w.state.words.active idle won in let e' : phase w.state.phases c ≡ Seizing room ticket first w.state.words.active = e ∙ ap (λ a. Seizing room ticket first a) (sym same) in
          rw same at (seized_kept w.state.words w.state.phases (trace w.history) c room ticket first g.inv h e'));
      apart = g.apart;
    })
    (λ lost. record {
      inv = (let f : Fits w.state.words (is_exiting (trace w.history)) (Seizing room ticket first idle) = fits_at w.state.words w.state.phases (trace w.history) c (Seizing room ticket first idle) g.inv e in
          still_at w.state.words w.state.phases (trace w.history) c (Seizing room ticket first idle) (Looking room ticket first) g.inv h e f.0 (λ k. k) (λ r x. refl) refl);
      apart = g.apart;
    })
stepping_kept w c (Counting room ticket first turn) g h e = record {
  inv =
      counting_kept w.state.words w.state.phases (trace w.history) c room ticket first turn g.inv h
      e;
  apart = g.apart;
}
stepping_kept w c (Admitting room zero first turn to) g h e =
    let s = w.state.words in let t = trace w.history in
    let f : Fits s (is_exiting t) (Admitting room 0 first turn to) =
    fits_at s w.state.phases t c (Admitting room 0 first turn to) g.inv e in
    let i = admitted_kept s w.state.phases t (Opened turn room (get_or s.grant room 0) to ∷ t) c
    room 0 first turn to Out g.inv h e tt refl
    (λ r x.
    above_zero r x Out (omega arith)
    ∙ sym (above_zero r x (Admitting room 0 first turn to) (omega arith)))
    refl refl refl (g.inv.occupied c ∙ ap room_inside e) (λ d _. refl) in
    record { inv = i; apart = (λ d r o. absurd (nobody_inside s w.state.phases t g.inv f.0.keeps.shut d r o), f.0.keeps.exit, g.apart) }
stepping_kept w c (Admitting room (suc ticket) first turn to) g h e =
    let s = w.state.words in let t = trace w.history in
    let f : Fits s (is_exiting t) (Admitting room (suc ticket) first turn to) =
    fits_at s w.state.phases t c (Admitting room (suc ticket) first turn to) g.inv e in
    let small : room < length s.grant =
    omega (arith, within s.wait room (omega (arith, f.0.more)), g.inv.grants) in
    let now : get_or (set s.grant room to) room 0 ≡ to = get_or-set_same s.grant room to 0 small in
    let i = admitted_kept s w.state.phases t
    (Entered c room ∷ Opened turn room (get_or s.grant room 0) to ∷ t) c room (suc ticket) first
    turn to (Inside room (suc ticket) first turn to) g.inv h e (
      record { some = omega arith; granted = omega (arith, now, f.2); to_is = sym now },
      f.0.keeps.turn_is,
    ) refl (λ r x. refl)
    refl refl refl (cond-true (eqb c c) (Some room) (occupant c t) (eq-eqb c c refl))
    (λ d ne. cond-false (eqb c d) (Some room) (occupant d t) (ne_eqb c d (λ q. ne (sym q)))) in
    record { inv = i; apart = (now_apart _ _ _ i, tt, ((λ d r o. absurd (nobody_inside s w.state.phases t g.inv f.0.keeps.shut d r o), f.0.keeps.exit, g.apart))) }
stepping_kept w c (Turning room ticket first to) g h e =
    let i =
    turning_kept w.state.words w.state.phases (trace w.history) c room ticket first
    (seen first w.state.words.active) to g.inv h e in
    record { inv = i; apart = (now_apart w.state.words _ _ i, tt, g.apart) }
stepping_kept w c (Exiting room turn) g h e =
    let i =
    exiting_kept w.state.words w.state.phases (trace w.history) c room turn
    (next_room w.state.words room) g.inv h e in
    record { inv = i; apart = (now_apart w.state.words _ _ i, tt, g.apart) }
stepping_kept w c (Peering room turn k v) g h e =
    record { inv = peering_kept w.state.words w.state.phases (trace w.history) c room turn k v (next_room w.state.words k) g.inv h e; apart = g.apart }
stepping_kept w c (Scanning room turn k) g h e = record {
  inv = scanning_kept w.state.words w.state.phases (trace w.history) c room turn k g.inv h e;
  apart = g.apart;
}
stepping_kept w c (Passing turn (Some k)) g h e = record {
  inv = pass_to_kept w.state.words w.state.phases (trace w.history) c turn k g.inv h e;
  apart = g.apart;
}
stepping_kept w c (Passing turn None) g h e = record {
  inv =
      pass_idle_kept w.state.words w.state.phases (trace w.history) c turn (pack turn 0) g.inv h e;
  apart = g.apart;
}

leaving_kept : (w : World) (c : ℕ) (p : Phase) → Good w → c < length w.state.phases
    → phase w.state.phases c ≡ p → Good (carried w c Leave (leaving_from w.state c p))
leaving_kept w c (Inside room ticket first turn to) g h e =
    let s = w.state.words in let t = trace w.history in let ps = w.state.phases in
    let touch = Add (Done room) (get_or s.done room 0) in
    let f : Fits s (is_exiting t) (Inside room ticket first turn to) =
    fits_at s ps t c (Inside room ticket first turn to) g.inv e in
    let opened : get_or s.done room 0 < get_or s.grant room 0 =
    inside_open s ps t c room ticket first turn to g.inv e in
    let io : IsOpen s.active (is_exiting t) (is_closing t) (last_room t) room =
    g.inv.open_room room opened in
    let small : room < length s.done =
    omega
    (arith, within s.wait room (omega (arith, opened, g.inv.granted room)), g.inv.dones) in
    by_bool (eqb (get_or s.done room 0 + 1) to)
    (λ b.
    Good
    (carried w c Leave
    (Ok (
      cond b (Exiting room turn) Out,
      record { touch = touch; one = Some (Left c); two = cond b (Some (ExitBegun room)) None },
    ))))
    (λ last. let full : get_or s.done room 0 + 1 ≡ to = eqb-true (get_or s.done room 0 + 1) to last in
    let keeps : Keeps (record s { done = set s.done room (get_or s.done room 0 + 1) }) true turn true = record {
      turn_is = f.1;
      busy = omega (arith, io.code);
      exit = refl;
      shut =
          each_set (λ k v. v ≡ get_or s.grant k 0) s.done room (get_or s.done room 0 + 1) 0 small
          (full ∙ f.0.to_is)
          (λ k ne. elim (cases_lt (get_or s.done k 0) (get_or s.grant k 0)) [
            | inl l ↦ absurd (ne (omega (arith, io.code, (g.inv.open_room k l).code)))
            | inr ge ↦ omega (arith, ge, done_granted s ps t g.inv k)
          ]);
    } in
    let i = left_kept s ps t (ExitBegun room ∷ Left c ∷ t) c room ticket first turn to
    (Exiting room turn) g.inv h e (keeps, io.code)
    (λ r x. above_zero r x (Exiting room turn) (omega arith)) refl
    (λ l. absurd (omega (arith, l, full, f.0.to_is))) refl (λ d. refl) in
    record { inv = i; apart = (now_apart _ _ _ i, tt, ((λ d r o. absurd (let z = now_apart _ _ _ i d r o in cc z.1)), tt, g.apart)) })
    (λ _. let i = left_kept s ps t (Left c ∷ t) c room ticket first turn to Out g.inv h e tt (λ r x. above_zero r x Out (omega arith)) refl (λ _. (refl, refl)) refl (λ d. refl) in
    record { inv = i; apart = (now_apart _ _ _ i, tt, g.apart) })
leaving_kept w c _ g h e = g

drawing_kept : (w : World) (c r : ℕ) (p : Phase) → Good w → c < length w.state.phases
    → r < length w.state.words.wait → phase w.state.phases c ≡ p
    → Good (carried w c (Draw r) (drawing_from w.state c r p))
drawing_kept w c r Out g h hr e =
    cond_both (eqb (get_or w.state.draws c 0) (2 ^ 48)) (Err Spent) (Ok (drawing w.state.words r))
    (λ row. Good (carried w c (Draw r) row))
    (λ _. g)
    (λ _.
    record {
      inv = draw_kept w.state.words w.state.phases (trace w.history) c r g.inv h hr e;
      apart = g.apart;
    })
drawing_kept w c r _ g h hr e = g

acting_kept : (w : World) (c : ℕ) (act : Act) → Good w → c < length w.state.phases
    → Good (carried w c act (acting w.state c (phase w.state.phases c) act))
acting_kept w c (Draw r) g h =
    cond_both (ltb r (length w.state.words.wait))
    (drawing_from w.state c r (phase w.state.phases c)) (Err NoRoom)
    (λ row. Good (carried w c (Draw r) row))
    (λ lt.
    drawing_kept w c r (phase w.state.phases c) g h (ltb-true r (length w.state.words.wait) lt)
    refl)
    (λ _. g)
acting_kept w c Step g h = stepping_kept w c (phase w.state.phases c) g h refl
acting_kept w c Leave g h = leaving_kept w c (phase w.state.phases c) g h refl

pub happens_kept : (w : World) (c : ℕ) (act : Act) → Good w → Good (happens w (c, act))
happens_kept w c act g =
    cond_both (ltb c (length w.state.phases)) (acting w.state c (phase w.state.phases c) act)
    (Err NoCaller) (λ row. Good (carried w c act row))
    (λ lt. acting_kept w c act g (ltb-true c (length w.state.phases) lt))
    (λ _. g)

pub run_kept : (acts : List (ℕ × Act)) (w : World) → Good w → Good (run acts w)
run_kept [] w g = g
run_kept (a ∷ acts) w g = run_kept acts (happens w a) (happens_kept w a.0 a.1 g)

pub zeros : (n k : ℕ) → ◌≡◌ {A = ℕ} (get_or (replicate n 0) k 0) 0
zeros n k =
    elim (cases_lt k n)
    [ inl l ↦ get_or-replicate n k 0 0 l | inr le ↦ get_or_past (replicate n 0) k 0 (rw length-replicate le) ]

pub outs : (n k : ℕ) → phase (replicate n Out) k ≡ Out
outs n k =
    elim (cases_lt k n)
    [ inl l ↦ get_or-replicate n k Out Out l | inr le ↦ get_or_past (replicate n Out) k Out (rw length-replicate le) ]

pub start_good : (rooms callers : ℕ) → rooms ≤ 7 → Good (start rooms callers)
start_good rooms callers few =
    let none : (r x : ℕ) → holders (replicate callers Out) r x ≡ 0 =
    λ r x.
    omega (
      arith,
      sum_by-replicate (above r x) callers Out,
      ap (λ v. callers * v) (above_zero r x Out (omega arith)),
    ) in
    record {
      inv = record {
        each = λ c. subst (Fits (start rooms callers).state.words false) (sym (outs callers c)) tt;
        one =
            λ c d k _.
            absurd
            (let z : is_keeper (phase (replicate callers Out) c) ≡ false =
            ap is_keeper (outs callers c) in
            cc);
        open_room = λ r l. absurd (omega (arith, l, zeros rooms r));
        idle = λ _. refl;
        occupied = λ c. sym (ap room_inside (outs callers c));
        granted = λ r. omega arith;
        total = λ r. omega (arith, none r 0, zeros rooms r);
        later = λ r x l u. omega (arith, none r x, zeros rooms r, u);
        grants = refl;
        dones = refl;
        few = rw length-replicate few;
      };
      apart = tt;
    }
