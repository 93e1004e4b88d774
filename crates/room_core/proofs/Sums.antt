-- No counter comes near its end.
use Rattle.std.proofs.Common.{◌≡◌, ◌≢◌, ℕ, suc, ◌+◌, ◌<◌, ◌≤◌, List, [], ◌∷◌, length, get_or, set, Option, Some, None, refl, ◌∙◌, subst, inl, inr, arith, ◌^◌}
use Rattle.std.proofs.lemmas.Bool.{cases_lt}
use Rattle.std.proofs.lemmas.List.{get_or_past, length-set, get_or_default}
use Rattle.std.specs.List.{All, sum_by}
use Rattle.std.proofs.lemmas.List.Sums.{sum_by-set, get_or-le-sum_by, sum_by-le, sum_by-cons}
use Rattle.room_core.specs.declared.acts.Act.{Act}
use Rattle.room_core.specs.declared.phases.Phase.{Phase}
use Rattle.room_core.specs.declared.phases.Phase.TheVariants.{Out, Looking, Seizing, Counting, Admitting, Inside, Exiting, Passing}
use Rattle.room_core.specs.declared.items.Item.{Item}
use Rattle.room_core.specs.declared.acts.Act.TheVariants.{Draw}
use Rattle.room_core.specs.Words.{Words, touched, CanTouch}
use Rattle.room_core.specs.Machine.{Row, draws_after}
use Rattle.room_core.specs.Active.{turn_of, pack, seen}
use Rattle.room_core.specs.Trace.{is_exiting, is_closing, trace, onto, last_opening, openings}
use Rattle.room_core.specs.Runs.{World}
use Rattle.room_core.proofs.Lists.{each_set, within}
use Rattle.room_core.proofs.Invariant.{phase, Fits, Inv}
use Rattle.room_core.proofs.Rows.{fits_at, done_granted}
use Rattle.room_core.proofs.Keys.{turn_of_pack}
use Rattle.room_core.proofs.Went.{Went, drawn, found, missed, saw_idle, saw_busy, won, lost, counted_wait, opened, opened_in, entered, left, left_last, exited, chose, ended, went_on, scanned, passed, rested}
use Rattle.room_core.proofs.Marks.{MarkedAt, mark_at}

abbrev pub total : List ℕ → ℕ
total xs = sum_by (λ x. x) xs

-- the idle word that a caller saw is of a turn within bounds
abbrev pub IdleAt : Phase → Type 0
IdleAt (Seizing room ticket first idle) = idle < 2 ^ 60
IdleAt _ = Unit {0}

pub record Sums (callers : ℕ) (w : Words) (ps : List Phase) (made : List ℕ) (count : ℕ) : Type 0 where
  pub phases : length ps ≡ callers
  pub makers : length made ≡ callers
  pub all : total made ≡ total w.wait
  pub most : (c : ℕ) → get_or made c 0 ≤ 2 ^ 48
  pub paid : count ≤ total w.grant
  pub turn : turn_of w.active ≤ count + 1
  pub idles : (d : ℕ) → IdleAt (phase ps d)

abbrev pub SumsAt : ℕ → World → Type 0
SumsAt callers w =
    Sums callers w.state.words w.state.phases w.state.draws (openings (trace w.history))

-- a step that draws nothing and opens nothing
sums_still : (n : ℕ) (w : Words) (ps : List Phase) (made : List ℕ) (count c : ℕ) (p : Phase) (active : ℕ) (done : List ℕ)
    → c < length ps → Sums n w ps made count → turn_of active ≤ count + 1 → IdleAt p
    → Sums n (record { active = active; wait = w.wait; grant = w.grant; done = done }) (set ps c p)
    made count
sums_still n w ps made count c p active done h k t q = record {
  phases = length-set ps c p ∙ k.phases;
  makers = k.makers;
  all = k.all;
  most = k.most;
  paid = k.paid;
  turn = t;
  idles = each_set (λ _ q. IdleAt q) ps c p Out h q (λ d _. k.idles d);
}

-- a store of a grant
sums_opened : (n : ℕ) (s : Words) (ps : List Phase) (made : List ℕ) (t : List Item) (c room ticket : ℕ) (first : Option ℕ) (turn to : ℕ) (p : Phase)
    → Inv s ps t → c < length ps → phase ps c ≡ Admitting room ticket first turn to
    → Sums n s ps made (openings t) → IdleAt p
    → Sums n (record s { grant = set s.grant room to }) (set ps c p) made (openings t + 1)
sums_opened n s ps made t c room ticket first turn to p i h e k q =
    let f : Fits s (is_exiting t) (Admitting room ticket first turn to) =
    fits_at s ps t c (Admitting room ticket first turn to) i e in
    let small : room < length s.grant =
    omega (arith, within s.wait room (omega (arith, f.0.more)), i.grants) in
    record {
      phases = length-set ps c p ∙ k.phases;
      makers = k.makers;
      all = k.all;
      most = k.most;
      paid = omega (arith, sum_by-set (λ x. x) s.grant room to 0 small, k.paid, f.1);
      turn = omega (arith, k.turn);
      idles = each_set (λ _ q. IdleAt q) ps c p Out h q (λ d _. k.idles d);
    }

sums_le : (xs ys : List ℕ) → length xs ≡ length ys → ((k : ℕ) → get_or xs k 0 ≤ get_or ys k 0)
    → total xs ≤ total ys
sums_le [] ys e h = omega arith
sums_le (x ∷ xs) [] e h = absurd (cc)
sums_le (x ∷ xs) (y ∷ ys) e h =
    let tail : total xs ≤ total ys = sums_le xs ys (cc) (λ k. h (suc k)) in
    omega (arith, sum_by-cons (λ v. v) x xs, sum_by-cons (λ v. v) y ys, h 0, tail)

-- the bounds that follow
module _ (n : ℕ) (w : Words) (ps : List Phase) (t : List Item) (made : List ℕ) (few : n ≤ 64) (i : Inv w ps t) (k : Sums n w ps made (openings t)) where
  pub waits_small : total w.wait ≤ 2 ^ 54
  waits_small =
      let each : All (λ x. x ≤ 2 ^ 48) made =
      λ c d h. (let e = get_or_default made c d 0 h in omega (arith, e, k.most c)) in
      omega (arith, sum_by-le (λ x. x) (2 ^ 48) made each, k.all, k.makers, few)

  pub wait_small : (r : ℕ) → get_or w.wait r 0 ≤ 2 ^ 54
  wait_small r = elim (cases_lt r (length w.wait)) [
    | inl l ↦ omega (arith, get_or-le-sum_by (λ x. x) w.wait r 0 l, waits_small)
    | inr g ↦ omega (arith, get_or_past w.wait r 0 g)
  ]

  pub done_small : (r : ℕ) → get_or w.done r 0 ≤ 2 ^ 54
  done_small r = omega (arith, done_granted w ps t i r, i.granted r, wait_small r)

  -- the turn is at most one more than the openings, each of which let a ticket in
  pub active_within : w.active < 2 ^ 58
  active_within =
      omega (arith, k.turn, k.paid, sums_le w.grant w.wait i.grants i.granted, waits_small)

  pub active_small : w.active < 2 ^ 60
  active_small = omega (arith, active_within)

pub sums_went : (n c : ℕ) (s : Words) (ps : List Phase) (t : List Item) (made : List ℕ) (p : Phase) (act : Act) (row : Row)
    → n ≤ 64 → Went c s p act row → Inv s ps t → MarkedAt s ps t → c < length ps → phase ps c ≡ p
    → ((r : ℕ) → act ≡ Draw r → get_or made c 0 ≢ 2 ^ 48) → Sums n s ps made (openings t)
    → Sums n (touched s row.1.touch) (set ps c row.0) (draws_after made c act)
    (openings (onto row.1.two (onto row.1.one t)))
sums_went n c s ps t made p act row few (drawn r hr) i m h e free k =
    let hm : c < length made = omega (arith, h, k.phases, k.makers) in
    let below : get_or made c 0 < 2 ^ 48 = omega (arith, k.most c, free r refl) in
    record {
      phases = length-set ps c (Looking r (get_or s.wait r 0 + 1) None) ∙ k.phases;
      makers = length-set made c (get_or made c 0 + 1) ∙ k.makers;
      all =
          omega (
            arith,
            sum_by-set (λ x. x) made c (get_or made c 0 + 1) 0 hm,
            sum_by-set (λ x. x) s.wait r (get_or s.wait r 0 + 1) 0 hr,
            k.all,
          );
      most =
          each_set (λ _ v. v ≤ 2 ^ 48) made c (get_or made c 0 + 1) 0 hm (omega (arith, below))
          (λ d _. k.most d);
      paid = k.paid;
      turn = k.turn;
      idles =
          each_set (λ _ q. IdleAt q) ps c (Looking r (get_or s.wait r 0 + 1) None) Out h tt
          (λ d _. k.idles d);
    }
sums_went n c s ps t made p act row few (saw_idle room ticket first z) i m h e free k =
    sums_still n s ps made _ c (Seizing room ticket (seen first s.active) s.active) s.active s.done
    h k k.turn (active_small n s ps t made few i k)
sums_went n c s ps t made p act row few (won room ticket first) i m h e free k =
    let f : Fits s (is_exiting t) (Seizing room ticket first s.active) =
    fits_at s ps t c (Seizing room ticket first s.active) i e in
    let small : room < length s.wait = within s.wait room (omega (arith, f.0.some, f.0.drawn)) in
    let turn : turn_of (pack (turn_of s.active + 1) (room + 1)) ≡ turn_of s.active + 1 =
    turn_of_pack (turn_of s.active + 1) (room + 1) (omega (arith, small, i.few)) in
    sums_still n s ps made _ c (Counting room ticket first (turn_of s.active + 1))
    (pack (turn_of s.active + 1) (room + 1)) s.done h k (omega (arith, turn, (m.idle f.1).0)) tt
sums_went n c s ps t made p act row few (counted_wait room ticket first turn) i m h e free k =
    sums_still n s ps made _ c _ s.active s.done h k k.turn tt
sums_went n c s ps t made p act row few (opened room first turn to) i m h e free k =
    sums_opened n s ps made t c room 0 first turn to Out i h e k tt
sums_went n c s ps t made p act row few (opened_in room ticket first turn to) i m h e free k =
    sums_opened n s ps made t c room (suc ticket) first turn to
    (Inside room (suc ticket) first turn to) i h e k tt
sums_went n c s ps t made p act row few (left room ticket first turn to short) i m h e free k =
    sums_still n s ps made _ c Out s.active (set s.done room (get_or s.done room 0 + 1)) h k k.turn
    tt
sums_went n c s ps t made p act row few (left_last room ticket first turn to full) i m h e free k =
    sums_still n s ps made _ c (Exiting room turn) s.active
    (set s.done room (get_or s.done room 0 + 1)) h k k.turn tt
sums_went n c s ps t made p act row few (exited room turn) i m h e free k =
    sums_still n s ps made _ c _ s.active s.done h k k.turn tt
sums_went n c s ps t made p act row few (chose room turn k' w lt) i m h e free k =
    sums_still n s ps made _ c _ s.active s.done h k k.turn tt
sums_went n c s ps t made p act row few (ended room turn w le) i m h e free k =
    sums_still n s ps made _ c _ s.active s.done h k k.turn tt
sums_went n c s ps t made p act row few (went_on room turn k' w le ne) i m h e free k =
    sums_still n s ps made _ c _ s.active s.done h k k.turn tt
sums_went n c s ps t made p act row few (scanned room turn k') i m h e free k =
    sums_still n s ps made _ c _ s.active s.done h k k.turn tt
sums_went n c s ps t made p act row few (passed turn k') i m h e free k =
    let f : Fits s (is_exiting t) (Passing turn (Some k')) =
    fits_at s ps t c (Passing turn (Some k')) i e in
    let small : k' < length s.wait = within s.wait k' (omega (arith, f.1)) in
    let turn_is : turn_of (pack (turn + 1) (k' + 1)) ≡ turn + 1 =
    turn_of_pack (turn + 1) (k' + 1) (omega (arith, small, i.few)) in
    let mm : (openings t ≡ turn_of s.active) × _ =
    mark_at s ps t c _ m e in
    sums_still n s ps made _ c (Counting k' 0 None (turn + 1)) (pack (turn + 1) (k' + 1)) s.done h k
    (omega (arith, turn_is, f.0.turn_is, mm.0)) tt
sums_went n c s ps t made p act row few (rested turn) i m h e free k =
    let f : Fits s (is_exiting t) (Passing turn None) = fits_at s ps t c (Passing turn None) i e in
    sums_still n s ps made _ c Out (pack turn 0) s.done h k
    (omega (arith, turn_of_pack turn 0 (omega arith), f.0.turn_is, k.turn)) tt
sums_went n c s ps t made p act row few went i m h e free k =
    sums_still n s ps made _ c _ s.active s.done h k k.turn tt

-- the count of departures of the room of who is inside exists, and has room for one more
leaving_touch : (n c : ℕ) (s : Words) (ps : List Phase) (t : List Item) (made : List ℕ) (room ticket : ℕ) (first : Option ℕ) (turn to : ℕ)
    → n ≤ 64 → Inv s ps t → phase ps c ≡ Inside room ticket first turn to
    → Sums n s ps made (openings t) → (room < length s.done) × (get_or s.done room 0 + 1 < 2 ^ 64)
leaving_touch n c s ps t made room ticket first turn to few i e k =
    let f : Fits s (is_exiting t) (Inside room ticket first turn to) =
    fits_at s ps t c (Inside room ticket first turn to) i e in (
      omega
          (arith, within s.wait room (omega (arith, f.0.some, f.0.granted, i.granted room)), i.dones),
      omega (arith, done_small n s ps t made few i k room),
    )

-- what a row writes exists and fits
pub can_touch : (n c : ℕ) (s : Words) (ps : List Phase) (t : List Item) (made : List ℕ) (p : Phase) (act : Act) (row : Row)
    → n ≤ 64 → Went c s p act row → Inv s ps t → c < length ps → phase ps c ≡ p
    → Sums n s ps made (openings t) → CanTouch s row.1.touch
can_touch n c s ps t made p act row few (drawn r hr) i h e k =
    (hr, omega (arith, wait_small n s ps t made few i k r))
can_touch n c s ps t made p act row few (opened room first turn to) i h e k =
    let f : Fits s (is_exiting t) (Admitting room 0 first turn to) =
    fits_at s ps t c (Admitting room 0 first turn to) i e in
    omega (arith, within s.wait room (omega (arith, f.0.more)), i.grants)
can_touch n c s ps t made p act row few (opened_in room ticket first turn to) i h e k =
    let f : Fits s (is_exiting t) (Admitting room (suc ticket) first turn to) =
    fits_at s ps t c (Admitting room (suc ticket) first turn to) i e in
    omega (arith, within s.wait room (omega (arith, f.0.more)), i.grants)
can_touch n c s ps t made p act row few (left room ticket first turn to short) i h e k =
    leaving_touch n c s ps t made room ticket first turn to few i e k
can_touch n c s ps t made p act row few (left_last room ticket first turn to full) i h e k =
    leaving_touch n c s ps t made room ticket first turn to few i e k
can_touch n c s ps t made p act row few went i h e k = tt
