-- What holds of a state that a run leads to.
use Rattle.std.proofs.Common.{◌≡◌, ℕ, ◌<◌, ◌≤◌, Bool, List, [], ◌∷◌, length, get_or, Some, None, refl, sym, ap, ◌∙◌, subst, inl, arith, ltb, ◌^◌, Result, Ok, Err, replicate, ◌++◌, IfOk}
use Rattle.std.proofs.lemmas.Bool.{cond-true, lt-ltb}
use Rattle.std.proofs.lemmas.List.{length-replicate}
use Rattle.std.proofs.lemmas.List.Folds.{sum_by-replicate}
use Rattle.room_core.specs.declared.acts.Act.{Act}
use Rattle.room_core.specs.declared.phases.Phase.{Phase}
use Rattle.room_core.specs.declared.phases.Phase.TheVariants.{Out, Looking, Glancing, Seizing, Counting, Admitting, Turning, Inside, Exiting, Peering, Scanning, Passing}
use Rattle.room_core.specs.declared.acts.Refused.{Refused}
use Rattle.room_core.specs.declared.acts.Refused.TheVariants.{NoCaller}
use Rattle.room_core.specs.Words.{Words, CanTouch}
use Rattle.room_core.specs.Machine.{Row, row_of, after, State, phase_of, acting}
use Rattle.room_core.specs.Active.{code_of}
use Rattle.room_core.specs.Trace.{is_exiting, trace}
use Rattle.room_core.specs.Counters.{IsBounded}
use Rattle.room_core.specs.Runs.{World, carried, happens, run, start}
use Rattle.room_core.specs.Core.{IsReached, IsSized, IsSmall, IsNamed}
use Rattle.room_core.proofs.Lists.{within}
use Rattle.room_core.proofs.Invariant.{phase, Fits}
use Rattle.room_core.proofs.Due.{Named}
use Rattle.room_core.proofs.Told.{moment}
use Rattle.room_core.proofs.Went.{by_happens_is, by_row_is, draw_free}
use Rattle.room_core.proofs.Apart.{Good, happens_kept, start_good, outs, zeros}
use Rattle.room_core.proofs.Sums.{SumsAt, IdleAt, sums_went, can_touch, wait_small, done_small, active_small, active_within}
use Rattle.room_core.proofs.Whole.{More, more_kept, start_more}
use Rattle.room_core.proofs.Late.{Late, LateAt, late_went}
use Rattle.room_core.proofs.Leavers.{LeftLast, LeaverAt, leaver_went}
use Rattle.room_core.proofs.Awake.{Awake, awake_went, not_last}

pub record Sound (rooms callers : ℕ) (w : World) : Type 0 where
  pub good : Good w
  pub more : More rooms w
  pub sums : SumsAt callers w
  pub late : Late w.state.words w.state.phases w.history
  pub leavers : LeftLast w.state.phases (trace w.history)
  pub awake : Awake w.state.words w.state.phases

sound_kept : (rooms callers : ℕ) (w : World) (c : ℕ) (act : Act) → callers ≤ 64
    → Sound rooms callers w → Sound rooms callers (happens w (c, act))
sound_kept rooms callers w c act crowd k = record {
  good = happens_kept w c act k.good;
  more = more_kept rooms w c act k.good k.more;
  sums = by_happens_is w c act (SumsAt callers) k.sums (λ h row e went.
      sums_went callers c w.state.words w.state.phases (trace w.history) w.state.draws
      (phase w.state.phases c) act row crowd went k.good.inv k.more.marks h refl
      (λ r ea. draw_free w.state c r row (ap (row_of w.state c) (sym ea) ∙ e)) k.sums);
  leavers = by_happens_is w c act (λ v. LeftLast v.state.phases (trace v.history)) k.leavers (λ h row e went.
      leaver_went c w.state.words w.state.phases (trace w.history) (phase w.state.phases c) act row went k.good.inv h refl k.leavers);
  awake = by_happens_is w c act (λ v. Awake v.state.words v.state.phases) k.awake (λ h row e went.
      awake_went c w.state.words w.state.phases (trace w.history) (phase w.state.phases c) act row went k.good.inv h refl (not_last w c act row h e) k.awake);
  late = by_happens_is w c act (λ v. Late v.state.words v.state.phases v.history) k.late (λ h row e went.
      late_went c w.state.words w.state.phases w.history (phase w.state.phases c) act row went k.good.inv h refl k.late);
}

pub run_sound : (rooms callers : ℕ) (acts : List (ℕ × Act)) (w : World) → callers ≤ 64
    → Sound rooms callers w → Sound rooms callers (run acts w)
run_sound rooms callers [] w crowd k = k
run_sound rooms callers (a ∷ acts) w crowd k =
    run_sound rooms callers acts (happens w a) crowd (sound_kept rooms callers w a.0 a.1 crowd k)

pub start_sound : (rooms callers : ℕ) → rooms ≤ 7 → Sound rooms callers (start rooms callers)
start_sound rooms callers few = record {
  good = start_good rooms callers few;
  more = start_more rooms callers;
  sums = record {
    phases = length-replicate callers Out;
    makers = length-replicate callers 0;
    all = omega (arith, sum_by-replicate (λ x. x) callers 0, sum_by-replicate (λ x. x) rooms 0);
    most = λ c. omega (arith, zeros callers c);
    paid = omega arith;
    turn = omega arith;
    idles = λ d. subst IdleAt (sym (outs callers d)) tt;
  };
  awake = record { why = inl refl };
  leavers = record { each = λ d. subst (LeaverAt 0 d) (sym (outs callers d)) tt };
  late = record {
    each =
        λ d.
        subst (LateAt (replicate rooms 0) 0 0) (sym (outs callers d))
        (λ z _. absurd (omega arith));
  };
}

pub reached_sound : (s : State) → (k : IsReached s)
    → Sound k.rooms k.callers (record { state = s; history = k.history })
reached_sound s k =
    subst (Sound k.rooms k.callers) k.leads
    (run_sound k.rooms k.callers k.acts (start k.rooms k.callers) k.crowd
    (start_sound k.rooms k.callers k.few))

pub reached_small : (s : State) → IsReached s → IsSmall s
reached_small s k =
    let a = reached_sound s k in
    let w = s.words in
    record {
      active =
          active_small k.callers w s.phases (trace k.history) s.draws k.crowd a.good.inv a.sums;
      wait =
          λ r.
          omega (
            arith,
            wait_small k.callers w s.phases (trace k.history) s.draws k.crowd a.good.inv a.sums r,
          );
      done =
          λ r.
          omega (
            arith,
            done_small k.callers w s.phases (trace k.history) s.draws k.crowd a.good.inv a.sums r,
          );
      drawn = a.sums.most;
    }

-- so the counters of a run are bounded
pub run_bounded : (rooms callers : ℕ) (acts : List (ℕ × Act)) → rooms ≤ 7 → callers ≤ 64
    → IsBounded (run acts (start rooms callers)).state
run_bounded rooms callers acts few crowd =
    let w = run acts (start rooms callers) in let s = w.state.words in
    let t = trace w.history in
    let a = run_sound rooms callers acts (start rooms callers) crowd (start_sound rooms callers few) in
    let waits = wait_small callers s w.state.phases t w.state.draws crowd a.good.inv a.sums in
    record {
      wait = waits;
      grant = λ r. omega (arith, a.good.inv.granted r, waits r);
      done = done_small callers s w.state.phases t w.state.draws crowd a.good.inv a.sums;
      active = active_within callers s w.state.phases t w.state.draws crowd a.good.inv a.sums;
      draws = a.sums.most;
    }

named_by : (m : ℕ) (s : Words) (now : Bool) (p : Phase) → length s.wait ≡ m → code_of s.active ≤ m
    → s.active < 2 ^ 60 → ((r : ℕ) → get_or s.grant r 0 ≤ get_or s.wait r 0) → Fits s now p
    → Named m p → IdleAt p → IsNamed (length s.wait) p
named_by m s now Out e c a g f n i = tt
named_by m s now (Looking room ticket first) e c a g f n i =
    within s.wait room (omega (arith, f.some, f.drawn))
named_by m s now (Glancing room ticket first) e c a g f n i =
    within s.wait room (omega (arith, f.some, f.drawn))
named_by m s now (Seizing room ticket first idle) e c a g f n i =
    (within s.wait room (omega (arith, f.0.some, f.0.drawn)), i)
named_by m s now (Counting room ticket first turn) e c a g f n i =
    within s.wait room (omega (arith, f.more))
named_by m s now (Admitting room ticket first turn to) e c a g f n i =
    within s.wait room (omega (arith, f.0.more))
named_by m s now (Turning room ticket first to) e c a g f n i =
    within s.wait room (omega (arith, f.some, f.granted, g room))
named_by m s now (Inside room ticket first turn to) e c a g f n i =
    within s.wait room (omega (arith, f.0.some, f.0.granted, g room))
named_by m s now (Exiting room turn) e c a g f n i = omega (arith, f.1, c, e)
named_by m s now (Peering room turn k w) e c a g f n i =
    (omega (arith, f.1, c, e), omega (arith, n, e))
named_by m s now (Scanning room turn k) e c a g f n i =
    (omega (arith, f.1, c, e), omega (arith, n, e))
named_by m s now (Passing turn None) e c a g f n i = (omega (arith, f.0.turn_is, a), tt)
named_by m s now (Passing turn (Some k)) e c a g f n i =
    (omega (arith, f.0.turn_is, a), within s.wait k (omega (arith, f.1)))

pub reached_sized : (s : State) → IsReached s → IsSized s
reached_sized s k =
    let a = reached_sound s k in
    let i = a.good.inv in
    record {
      some = omega (arith, a.more.due.rooms, k.some);
      few = i.few;
      grants = i.grants;
      dones = i.dones;
      callers = omega (arith, a.sums.phases, k.crowd);
      draws = a.sums.makers ∙ sym a.sums.phases;
      named =
          λ c.
          named_by k.rooms s.words (is_exiting (trace k.history)) (phase s.phases c)
          a.more.due.rooms a.more.due.code (reached_small s k).active i.granted (i.each c)
          (a.more.due.named c) (a.sums.idles c);
    }

pub run_push : (acts : List (ℕ × Act)) (a : ℕ × Act) (w : World)
    → run (acts ++ a ∷ []) w ≡ happens (run acts w) a
run_push [] a w = refl
run_push (b ∷ acts) a w = run_push acts a (happens w b)

pub reached_step : (s : State) (c : ℕ) (act : Act) (row : Row) → IsReached s
    → row_of s c act ≡ Ok row → IsReached (after s c act row)
reached_step s c act row k e = record {
  rooms = k.rooms;
  callers = k.callers;
  acts = k.acts ++ (c, act) ∷ [];
  history = moment c act row ∷ k.history;
  some = k.some;
  few = k.few;
  crowd = k.crowd;
  leads =
      run_push k.acts (c, act) (start k.rooms k.callers) ∙ ap (λ w. happens w (c, act)) k.leads
      ∙ ap (carried (record { state = s; history = k.history }) c act) e;
}

pub reached_touch : (s : State) (c : ℕ) (act : Act) (row : Row) → IsReached s
    → row_of s c act ≡ Ok row → CanTouch s.words row.1.touch
reached_touch s c act row k e =
    let a = reached_sound s k in
    by_row_is s c act (λ r. r ≡ Ok row → CanTouch s.words row.1.touch) (λ _ _ q. absurd (cc))
    (λ h row' _ went q. let same : row' ≡ row = cc in subst (λ x. CanTouch s.words x.1.touch) same
    (can_touch k.callers c s.words s.phases (trace k.history) s.draws (phase s.phases c) act row' k.crowd went a.good.inv h refl a.sums)) e

pub acting_touch : (s : State) (c : ℕ) (p : Phase) (act : Act) (r : Result Row Refused)
    → IsReached s → c < length s.phases → p ≡ phase_of s c → r ≡ acting s c p act
    → IfOk r (λ row. CanTouch s.words row.1.touch)
acting_touch s c p act (Err why) k h e q = tt
acting_touch s c p act (Ok row) k h e q =
    reached_touch s c act row k
    (cond-true (ltb c (length s.phases)) (acting s c (phase_of s c) act) (Err NoCaller)
    (lt-ltb c (length s.phases) h)
    ∙ ap (λ x. acting s c x act) (sym e) ∙ sym q)

pub start_reached : (rooms callers : ℕ) → 0 < rooms → rooms ≤ 7 → callers ≤ 64
    → IsReached (start rooms callers).state
start_reached rooms callers some few crowd = record {
  rooms = rooms;
  callers = callers;
  acts = [];
  history = [];
  some = some;
  few = few;
  crowd = crowd;
  leads = refl;
}
