-- What the state says of the last opening.
use Rattle.std.proofs.Common.{◌≡◌, ◌≢◌, ℕ, suc, ◌+◌, ◌<◌, ◌≤◌, Bool, true, false, cond, List, ◌∷◌, length, get_or, set, Option, Some, None, refl, sym, ap, ◌∙◌, subst, inl, inr, ◌⊎◌, arith, eqb}
use Rattle.std.proofs.lemmas.List.{get_or-set_same}
use Rattle.std.proofs.lemmas.Bool.{cond-true, cond-false, eq-eqb, ne_eqb}
use Rattle.room_core.specs.declared.acts.Act.{Act}
use Rattle.room_core.specs.declared.phases.Phase.{Phase}
use Rattle.room_core.specs.declared.phases.Phase.TheVariants.{Out, Looking, Glancing, Seizing, Counting, Admitting, Turning, Inside, Exiting, Peering, Scanning, Passing}
use Rattle.room_core.specs.declared.items.Item.{Item}
use Rattle.room_core.specs.declared.items.Opening.{Opening}
use Rattle.room_core.specs.declared.items.Item.TheVariants.{Opened}
use Rattle.room_core.specs.Words.{Words, touched}
use Rattle.room_core.specs.Machine.{Row, next_room}
use Rattle.room_core.specs.Active.{turn_of, code_of, pack, seen}
use Rattle.room_core.specs.Trace.{is_exiting, is_closing, trace, onto, last_opening, openings}
use Rattle.room_core.specs.Runs.{Moment}
use Rattle.room_core.proofs.Lists.{each_set, within}
use Rattle.room_core.proofs.Invariant.{ticket_of, room_of, is_keeper, phase, Fits, Inv}
use Rattle.room_core.proofs.Rows.{admitted_open, fits_at, inside_open}
use Rattle.room_core.proofs.Changes.{late}
use Rattle.room_core.proofs.Keys.{no_keeper, idle_shut, code_of_pack, turn_of_pack, is_false}
use Rattle.room_core.proofs.Went.{Went, drawn, found, missed, saw_idle, saw_busy, won, lost, counted_wait, opened, opened_in, entered, left, left_last, exited, chose, ended, went_on, scanned, passed, rested}
use Rattle.room_core.proofs.Backward.{last_to, lefts, LawfulAt, Pairs}
use Rattle.room_core.proofs.Bypass.{others_none}
use Rattle.room_core.proofs.Told.{Told, Tie}

abbrev pub Shut : ℕ → Bool → Bool → Type 0
Shut count closing exiting = (count ≡ 0) ⊎ ((closing ≡ true) × (exiting ≡ false))

pub record LastIn (last : Option Opening) (room : ℕ) : Type 0 where
  pub opening : Opening
  pub last_is : last ≡ Some opening
  pub room_is : opening.room ≡ room

abbrev pub MarkAt : ℕ → ℕ → Bool → Bool → Option Opening → Phase → Type 0
MarkAt turn count closing exiting last (Counting room ticket first turn') =
    (count + 1 ≡ turn) × Shut count closing exiting
MarkAt turn count closing exiting last (Admitting room ticket first turn' to) =
    (count + 1 ≡ turn) × Shut count closing exiting
MarkAt turn count closing exiting last (Exiting room turn') =
    (count ≡ turn) × LastIn last room × (closing ≡ true) × (exiting ≡ true)
MarkAt turn count closing exiting last (Peering room turn' k w) =
    (count ≡ turn) × Shut count closing exiting
MarkAt turn count closing exiting last (Scanning room turn' k) =
    (count ≡ turn) × Shut count closing exiting
MarkAt turn count closing exiting last (Passing turn' next) =
    (count ≡ turn) × Shut count closing exiting
MarkAt turn count closing exiting last _ = Unit {0}

pub record OpenNow (turn count granted left_now gone : ℕ) (last : Option Opening) (room : ℕ) : Type 0 where
  pub count_is : count ≡ turn
  pub here : LastIn last room
  pub to_is : here.opening.to ≡ granted
  pub turn_is : here.opening.turn ≡ turn
  pub left_is : here.opening.from + gone ≡ left_now

abbrev pub LowAt : Option Opening → Phase → Type 0
LowAt last p =
    (o : Opening) → 0 < ticket_of p → last ≡ Some o → o.room ≡ room_of p → o.from < ticket_of p

pub record Marked (s : Words) (ps : List Phase) (count gone : ℕ) (closing exiting : Bool) (last : Option Opening) (tos : ℕ → ℕ) : Type 0 where
  pub grants : (r : ℕ) → tos r ≡ get_or s.grant r 0
  pub each : (d : ℕ) → MarkAt (turn_of s.active) count closing exiting last (phase ps d)
  pub idle : code_of s.active ≡ 0 → (count ≡ turn_of s.active) × Shut count closing exiting
  pub open_now : (r : ℕ) → get_or s.done r 0 < get_or s.grant r 0
      → OpenNow (turn_of s.active) count (get_or s.grant r 0) (get_or s.done r 0) gone last r
  pub tickets : (d : ℕ) → LowAt last (phase ps d)
  pub low : (o : Opening) → last ≡ Some o → o.from ≤ get_or s.grant o.room 0

abbrev pub MarkedAt : Words → List Phase → List Item → Type 0
MarkedAt s ps t =
    Marked s ps (openings t) (lefts t) (is_closing t) (is_exiting t) (last_opening t)
    (λ r. last_to r t)

-- what is marked of a phase, and of a caller's
abbrev pub MarkOf : Words → List Item → Phase → Type 0
MarkOf s t p = MarkAt (turn_of s.active) (openings t) (is_closing t) (is_exiting t) (last_opening t) p

pub mark_at : (s : Words) (ps : List Phase) (t : List Item) (c : ℕ) (p : Phase) → MarkedAt s ps t
    → phase ps c ≡ p → MarkOf s t p
mark_at s ps t c p k e = subst (MarkOf s t) e (k.each c)

pub mark_none : (turn count : ℕ) (closing exiting : Bool) (last : Option Opening) (p : Phase)
    → is_keeper p ≡ false → MarkAt turn count closing exiting last p
mark_none turn count closing exiting last Out e = tt
mark_none turn count closing exiting last (Looking _ _ _) e = tt
mark_none turn count closing exiting last (Glancing _ _ _) e = tt
mark_none turn count closing exiting last (Seizing _ _ _ _) e = tt
mark_none turn count closing exiting last (Turning _ _ _ _) e = tt
mark_none turn count closing exiting last (Inside _ _ _ _ _) e = tt
mark_none turn count closing exiting last _ e = absurd (cc)

module _ (s : Words) (ps : List Phase) (count gone : ℕ) (closing exiting : Bool) (last : Option Opening) (tos : ℕ → ℕ) (c : ℕ) (h : c < length ps) (k : Marked s ps count gone closing exiting last tos) where
  -- a step that leaves the active word, the grants and the departures
  mark_still : (wait : List ℕ) (p : Phase) → MarkAt (turn_of s.active) count closing exiting last p
      → LowAt last p
      → Marked (record { active = s.active; wait = wait; grant = s.grant; done = s.done })
      (set ps c p) count gone closing exiting last tos
  mark_still wait p m l = record {
    grants = k.grants;
    each =
        each_set (λ _ q. MarkAt (turn_of s.active) count closing exiting last q) ps c p Out h m
        (λ d _. k.each d);
    idle = k.idle;
    open_now =
        λ r lt.
        (let o = k.open_now r lt in
        record {
          count_is = o.count_is;
          here = o.here;
          to_is = o.to_is;
          turn_is = o.turn_is;
          left_is = o.left_is;
        });
    tickets = each_set (λ _ q. LowAt last q) ps c p Out h l (λ d _. k.tickets d);
    low = k.low;
  }

  -- the active word changes while no room is open
  mark_turn : (active : ℕ) (p : Phase) → ((r : ℕ) → get_or s.done r 0 ≡ get_or s.grant r 0)
      → ((d : ℕ) → d ≢ c → is_keeper (phase ps d) ≡ true → ⊥)
      → MarkAt (turn_of active) count closing exiting last p
      → (code_of active ≡ 0 → (count ≡ turn_of active) × Shut count closing exiting)
      → LowAt last p
      → Marked (record s { active = active }) (set ps c p) count gone closing exiting last tos
  mark_turn active p shut none m idle l = record {
    grants = k.grants;
    each =
        each_set (λ _ q. MarkAt (turn_of active) count closing exiting last q) ps c p Out h m
        (λ d ne.
        mark_none (turn_of active) count closing exiting last (phase ps d)
        (is_false (is_keeper (phase ps d)) (none d ne)));
    idle = idle;
    open_now = λ r lt. absurd (omega (arith, shut r, lt));
    tickets = each_set (λ _ q. LowAt last q) ps c p Out h l (λ d _. k.tickets d);
    low = k.low;
  }

-- the store of a grant
mark_opened : (s : Words) (ps : List Phase) (t : List Item) (c room ticket : ℕ) (first : Option ℕ) (turn to : ℕ) (p : Phase)
    → Inv s ps t → c < length ps → phase ps c ≡ Admitting room ticket first turn to
    → MarkedAt s ps t
    → is_keeper p ≡ false → (0 < ticket_of p → (room_of p ≡ room) × (ticket_of p ≡ ticket))
    → MarkedAt (record s { grant = set s.grant room to }) (set ps c p)
    (Opened turn room (get_or s.grant room 0) to ∷ t)
mark_opened s ps t c room ticket first turn to p i h e k kp tp =
    let f : Fits s (is_exiting t) (Admitting room ticket first turn to) =
    fits_at s ps t c (Admitting room ticket first turn to) i e in
    let small : room < length s.grant =
    omega (arith, within s.wait room (omega (arith, f.0.more)), i.grants) in
    let here : get_or (set s.grant room to) room 0 ≡ to = get_or-set_same s.grant room to 0 small in
    let m : (openings t + 1 ≡ turn_of s.active) × Shut (openings t) (is_closing t) (is_exiting t) =
    mark_at s ps t c _ k e in
    let o : Opening = record { turn = turn; room = room; from = get_or s.grant room 0; to = to } in
    let count' = openings t + 1 in
    record {
      grants =
          each_set (λ r v. cond (eqb room r) to (last_to r t) ≡ v) s.grant room to 0 small
          (cond-true (eqb room room) to (last_to room t) (eq-eqb room room refl))
          (λ r ne.
          cond-false (eqb room r) to (last_to r t) (ne_eqb room r (λ q. ne (sym q)))
          ∙ k.grants r);
      each =
          each_set (λ _ q. MarkAt (turn_of s.active) count' false (is_exiting t) (Some o) q) ps c p
          Out h (mark_none (turn_of s.active) count' false (is_exiting t) (Some o) p kp)
          (λ d ne.
          mark_none (turn_of s.active) count' false (is_exiting t) (Some o) (phase ps d)
          (is_false (is_keeper (phase ps d))
          (others_none s ps t c (Admitting room ticket first turn to) i e refl d ne)));
      idle = λ z. absurd (omega (arith, z, f.0.code));
      open_now =
          each_set
          (λ r v.
          get_or s.done r 0 < v
          → OpenNow (turn_of s.active) count' v (get_or s.done r 0) 0 (Some o) r) s.grant room to 0
          small
          (λ _.
          record {
            count_is = m.0;
            here = record { opening = o; last_is = refl; room_is = refl };
            to_is = refl;
            turn_is = f.0.keeps.turn_is;
            left_is = omega (arith, f.0.keeps.shut room);
          })
          (λ r _ lt. absurd (omega (arith, lt, f.0.keeps.shut r)));
      tickets = each_set (λ _ q. LowAt (Some o) q) ps c p Out h
          (λ o' pos eo er.
          let same : o ≡ o' = cc in
          let tk = tp pos in
          subst (λ x. x.from < ticket_of p) same
          (omega (arith, tk.1, f.0.late (omega (arith, tk.1, pos)))))
          (λ d ne o' pos eo er. let same : o ≡ o' = cc in let same_room : room ≡ room_of (phase ps d) = ap (λ x. x.room) same ∙ er in
          let l : get_or s.grant (room_of (phase ps d)) 0 < ticket_of (phase ps d) =
          late s ps t i f.0.keeps.shut d pos in
          subst (λ x. x.from < ticket_of (phase ps d)) same (rw same_room l));
      low =
          λ o' eo.
          (let same : o ≡ o' = cc in
          subst (λ x. x.from ≤ get_or (set s.grant room to) x.room 0) same
          (omega (arith, here, f.1)));
    }

-- somebody leaves, and maybe begins the exit code
mark_left : (s : Words) (ps : List Phase) (t : List Item) (c room ticket : ℕ) (first : Option ℕ) (turn to : ℕ) (p : Phase) (closing exiting : Bool)
    → Inv s ps t → c < length ps → phase ps c ≡ Inside room ticket first turn to → MarkedAt s ps t
    → ticket_of p ≡ 0 → MarkAt (turn_of s.active) (openings t) closing exiting (last_opening t) p
    → Marked (record s { done = set s.done room (get_or s.done room 0 + 1) }) (set ps c p)
    (openings t) (lefts t + 1) closing exiting (last_opening t) (λ r. last_to r t)
mark_left s ps t c room ticket first turn to p closing exiting i h e k tp m =
    let f : Fits s (is_exiting t) (Inside room ticket first turn to) =
    fits_at s ps t c (Inside room ticket first turn to) i e in
    let o = get_or s.done room 0 in
    let opened_now : o < get_or s.grant room 0 =
    (let a = admitted_open s ps t c i in
    let a' : 0 < ticket → ticket ≤ get_or s.grant room 0 → o < get_or s.grant room 0 =
    rw e at a in
    a' f.0.some f.0.granted) in
    let small : room < length s.done =
    omega (arith, within s.wait room (omega (arith, opened_now, i.granted room)), i.dones) in
    let code : code_of s.active ≡ suc room = (i.open_room room opened_now).code in
    let old = k.open_now room opened_now in
    record {
      grants = k.grants;
      each =
          each_set
          (λ _ q. MarkAt (turn_of s.active) (openings t) closing exiting (last_opening t) q) ps c p
          Out h m
          (λ d ne.
          mark_none (turn_of s.active) (openings t) closing exiting (last_opening t) (phase ps d)
          (is_false (is_keeper (phase ps d)) (no_keeper s ps t d i (inl (room, opened_now)))));
      idle = λ z. absurd (omega (arith, z, code));
      open_now =
          each_set
          (λ r v.
          v < get_or s.grant r 0
          → OpenNow (turn_of s.active) (openings t) (get_or s.grant r 0) v (lefts t + 1)
          (last_opening t) r) s.done room (o + 1) 0 small
          (λ _.
          record {
            count_is = old.count_is;
            here = old.here;
            to_is = old.to_is;
            turn_is = old.turn_is;
            left_is = omega (arith, old.left_is);
          })
          (λ r ne lt. absurd (ne (omega (arith, code, (i.open_room r lt).code))));
      tickets =
          each_set (λ _ q. LowAt (last_opening t) q) ps c p Out h
          (λ o' pos. absurd (omega (arith, pos, tp))) (λ d _. k.tickets d);
      low = k.low;
    }

pub mark_went : (c : ℕ) (s : Words) (ps : List Phase) (t : List Item) (p : Phase) (act : Act) (row : Row)
    → Went c s p act row → Inv s ps t → c < length ps → phase ps c ≡ p → MarkedAt s ps t
    → MarkedAt (touched s row.1.touch) (set ps c row.0) (onto row.1.two (onto row.1.one t))
mark_went c s ps t p act row (drawn r hr) i h e k =
    mark_still s ps _ _ _ _ _ _ c h k (set s.wait r (get_or s.wait r 0 + 1))
    (Looking r (get_or s.wait r 0 + 1) None) tt
    (λ o pos eo er.
    let l : get_or s.grant o.room 0 ≤ get_or s.wait o.room 0 = i.granted o.room in
    let l' : get_or s.grant o.room 0 ≤ get_or s.wait r 0 =
    subst (λ x. get_or s.grant o.room 0 ≤ get_or s.wait x 0) er l in
    omega (arith, l', k.low o eo))
mark_went c s ps t p act row (found room ticket first le) i h e k =
    mark_still s ps _ _ _ _ _ _ c h k s.wait (Turning room ticket first (get_or s.grant room 0)) tt
    (subst (LowAt (last_opening t)) e (k.tickets c))
mark_went c s ps t p act row (missed room ticket first le) i h e k =
    mark_still s ps _ _ _ _ _ _ c h k s.wait (Glancing room ticket first) tt
    (subst (LowAt (last_opening t)) e (k.tickets c))
mark_went c s ps t p act row (saw_idle room ticket first z) i h e k =
    mark_still s ps _ _ _ _ _ _ c h k s.wait (Seizing room ticket (seen first s.active) s.active) tt
    (subst (LowAt (last_opening t)) e (k.tickets c))
mark_went c s ps t p act row (saw_busy room ticket first) i h e k =
    mark_still s ps _ _ _ _ _ _ c h k s.wait (Looking room ticket (seen first s.active)) tt
    (subst (LowAt (last_opening t)) e (k.tickets c))
mark_went c s ps t p act row (won room ticket first) i h e k =
    let f : Fits s (is_exiting t) (Seizing room ticket first s.active) =
    fits_at s ps t c (Seizing room ticket first s.active) i e in
    let a : ℕ = pack (turn_of s.active + 1) (room + 1) in
    let small : room < length s.wait = within s.wait room (omega (arith, f.0.some, f.0.drawn)) in
    let code : code_of a ≡ room + 1 =
    code_of_pack (turn_of s.active + 1) (room + 1) (omega (arith, small, i.few)) in
    let turn : turn_of a ≡ turn_of s.active + 1 =
    turn_of_pack (turn_of s.active + 1) (room + 1) (omega (arith, small, i.few)) in
    let m = k.idle f.1 in
    mark_turn s ps _ _ _ _ _ _ c h k a (Counting room ticket first (turn_of s.active + 1))
    (idle_shut s ps t i f.1) (λ d _ kd. no_keeper s ps t d i (inr f.1) kd)
    (omega (arith, m.0, turn), m.1) (λ z. absurd (omega (arith, z, code)))
    (subst (LowAt (last_opening t)) e (k.tickets c))
mark_went c s ps t p act row (lost room ticket first idle) i h e k =
    mark_still s ps _ _ _ _ _ _ c h k s.wait (Looking room ticket first) tt
    (subst (LowAt (last_opening t)) e (k.tickets c))
mark_went c s ps t p act row (counted_wait room ticket first turn) i h e k =
    mark_still s ps _ _ _ _ _ _ c h k s.wait
    (Admitting room ticket first turn (get_or s.wait room 0))
    (mark_at s ps t c _ k e) (subst (LowAt (last_opening t)) e (k.tickets c))
mark_went c s ps t p act row (opened room first turn to) i h e k =
    mark_opened s ps t c room 0 first turn to Out i h e k refl (λ z. absurd (omega arith))
mark_went c s ps t p act row (opened_in room ticket first turn to) i h e k =
    mark_opened s ps t c room (suc ticket) first turn to (Inside room (suc ticket) first turn to) i
    h e k refl (λ _. (refl, refl))
mark_went c s ps t p act row (entered room ticket first to) i h e k =
    mark_still s ps _ _ _ _ _ _ c h k s.wait
    (Inside room ticket (seen first s.active) (turn_of s.active) to) tt
    (subst (LowAt (last_opening t)) e (k.tickets c))
mark_went c s ps t p act row (left room ticket first turn to short) i h e k =
    mark_left s ps t c room ticket first turn to Out (is_closing t) (is_exiting t) i h e k refl tt
mark_went c s ps t p act row (left_last room ticket first turn to full) i h e k =
    let opened_now : get_or s.done room 0 < get_or s.grant room 0 =
    inside_open s ps t c room ticket first turn to i e in
    let o = k.open_now room opened_now in
    mark_left s ps t c room ticket first turn to (Exiting room turn) true true i h e k refl
    (o.count_is, o.here, refl, refl)
mark_went c s ps t p act row (exited room turn) i h e k =
    let f : Fits s (is_exiting t) (Exiting room turn) = fits_at s ps t c (Exiting room turn) i e in
    let m : MarkOf s t (Exiting room turn) = mark_at s ps t c _ k e in
    record {
      grants = k.grants;
      each =
          each_set
          (λ _ q. MarkAt (turn_of s.active) (openings t) (is_closing t) false (last_opening t) q) ps
          c (Peering room turn (next_room s room) (get_or s.wait (next_room s room) 0)) Out h
          (m.0, inr (m.2, refl))
          (λ d ne.
          mark_none (turn_of s.active) (openings t) (is_closing t) false (last_opening t)
          (phase ps d)
          (is_false (is_keeper (phase ps d))
          (others_none s ps t c (Exiting room turn) i e refl d ne)));
      idle = λ z. absurd (omega (arith, z, f.1));
      open_now = λ r lt. absurd (omega (arith, lt, f.0.shut r));
      tickets =
          each_set (λ _ q. LowAt (last_opening t) q) ps c
          (Peering room turn (next_room s room) (get_or s.wait (next_room s room) 0)) Out h
          (λ o pos. absurd (omega (arith, pos))) (λ d _. k.tickets d);
      low = k.low;
    }
mark_went c s ps t p act row (chose room turn k' w lt) i h e k =
    mark_still s ps _ _ _ _ _ _ c h k s.wait (Passing turn (Some k'))
    (mark_at s ps t c _ k e) (λ o pos. absurd (omega (arith, pos)))
mark_went c s ps t p act row (ended room turn w le) i h e k =
    mark_still s ps _ _ _ _ _ _ c h k s.wait (Passing turn None)
    (mark_at s ps t c _ k e) (λ o pos. absurd (omega (arith, pos)))
mark_went c s ps t p act row (went_on room turn k' w le ne) i h e k =
    mark_still s ps _ _ _ _ _ _ c h k s.wait (Scanning room turn (next_room s k'))
    (mark_at s ps t c _ k e) (λ o pos. absurd (omega (arith, pos)))
mark_went c s ps t p act row (scanned room turn k') i h e k =
    mark_still s ps _ _ _ _ _ _ c h k s.wait (Peering room turn k' (get_or s.wait k' 0))
    (mark_at s ps t c _ k e) (λ o pos. absurd (omega (arith, pos)))
mark_went c s ps t p act row (passed turn k') i h e k =
    let f : Fits s (is_exiting t) (Passing turn (Some k')) =
    fits_at s ps t c (Passing turn (Some k')) i e in
    let a : ℕ = pack (turn + 1) (k' + 1) in
    let small : k' < length s.wait = within s.wait k' (omega (arith, f.1)) in
    let code : code_of a ≡ k' + 1 =
    code_of_pack (turn + 1) (k' + 1) (omega (arith, small, i.few)) in
    let turn_is : turn_of a ≡ turn + 1 =
    turn_of_pack (turn + 1) (k' + 1) (omega (arith, small, i.few)) in
    let m : (openings t ≡ turn_of s.active) × Shut (openings t) (is_closing t) (is_exiting t) =
    mark_at s ps t c _ k e in
    mark_turn s ps _ _ _ _ _ _ c h k a (Counting k' 0 None (turn + 1)) f.0.shut
    (others_none s ps t c (Passing turn (Some k')) i e refl)
    (omega (arith, m.0, turn_is, f.0.turn_is), m.1) (λ z. absurd (omega (arith, z, code)))
    (λ o pos. absurd (omega (arith, pos)))
mark_went c s ps t p act row (rested turn) i h e k =
    let f : Fits s (is_exiting t) (Passing turn None) = fits_at s ps t c (Passing turn None) i e in
    let turn_is : turn_of (pack turn 0) ≡ turn = turn_of_pack turn 0 (omega arith) in
    let m : (openings t ≡ turn_of s.active) × Shut (openings t) (is_closing t) (is_exiting t) =
    mark_at s ps t c _ k e in
    mark_turn s ps _ _ _ _ _ _ c h k (pack turn 0) Out f.0.shut
    (others_none s ps t c (Passing turn None) i e refl) tt
    (λ _. (omega (arith, m.0, turn_is, f.0.turn_is), m.1)) (λ o pos. absurd (omega (arith, pos)))

-- what the items of a row say
pub lawful_went : (c : ℕ) (s : Words) (ps : List Phase) (history : List Moment) (p : Phase) (act : Act) (row : Row)
    → Went c s p act row → Inv s ps (trace history) → c < length ps → phase ps c ≡ p
    → MarkedAt s ps (trace history) → Tie s ps history
    → LawfulAt c history row.1.one (trace history) × LawfulAt c history row.1.two
    (onto row.1.one (trace history))
lawful_went c s ps hi p act row (opened room first turn to) i h e k y =
    let t = trace hi in
    let f : Fits s (is_exiting t) (Admitting room 0 first turn to) =
    fits_at s ps t c (Admitting room 0 first turn to) i e in
    let m : (openings t + 1 ≡ turn_of s.active) × Shut (openings t) (is_closing t) (is_exiting t) =
    mark_at s ps t c _ k e in
    let l : Told hi c (Admitting room 0 first turn to) = subst (Told hi c) e (y.each c) in
    ((omega (arith, m.0, f.0.keeps.turn_is), sym (k.grants room), f.1, sym l.loaded, m.1), tt)
lawful_went c s ps hi p act row (opened_in room ticket first turn to) i h e k y =
    let t = trace hi in
    let f : Fits s (is_exiting t) (Admitting room (suc ticket) first turn to) =
    fits_at s ps t c (Admitting room (suc ticket) first turn to) i e in
    let m : (openings t + 1 ≡ turn_of s.active) × Shut (openings t) (is_closing t) (is_exiting t) =
    mark_at s ps t c _ k e in
    let l : Told hi c (Admitting room (suc ticket) first turn to) = subst (Told hi c) e (y.each c) in (
      (omega (arith, m.0, f.0.keeps.turn_is), sym (k.grants room), f.1, sym l.loaded, m.1),
      (
        refl,
        suc ticket,
        l.ticket (omega arith),
        record { turn = turn; room = room; from = get_or s.grant room 0; to = to },
        refl,
        refl,
        f.0.late (omega arith),
        f.2,
        refl,
      ),
    )
lawful_went c s ps hi p act row (entered room ticket first to) i h e k y =
    let t = trace hi in
    let f : Fits s (is_exiting t) (Turning room ticket first to) =
    fits_at s ps t c (Turning room ticket first to) i e in
    let opened_now : get_or s.done room 0 < get_or s.grant room 0 =
    (let a = admitted_open s ps t c i in
    let a' : 0 < ticket → ticket ≤ get_or s.grant room 0
    → get_or s.done room 0 < get_or s.grant room 0 =
    rw e at a in
    a' f.some f.granted) in
    let o = k.open_now room opened_now in
    let l : Told hi c (Turning room ticket first to) = subst (Told hi c) e (y.each c) in
    let low : LowAt (last_opening t) (Turning room ticket first to) =
    subst (LowAt (last_opening t)) e (k.tickets c) in (
      (
        refl,
        ticket,
        l.ticket f.some,
        o.here.opening,
        o.here.last_is,
        o.here.room_is,
        low o.here.opening f.some o.here.last_is o.here.room_is,
        omega (arith, f.granted, o.to_is),
        (i.open_room room opened_now).close,
      ),
      tt,
    )
lawful_went c s ps hi p act row (left room ticket first turn to short) i h e k y = (refl, tt)
lawful_went c s ps hi p act row (left_last room ticket first turn to full) i h e k y =
    let t = trace hi in
    let f : Fits s (is_exiting t) (Inside room ticket first turn to) =
    fits_at s ps t c (Inside room ticket first turn to) i e in
    let opened_now : get_or s.done room 0 < get_or s.grant room 0 =
    inside_open s ps t c room ticket first turn to i e in
    let o = k.open_now room opened_now in (
      refl,
      (
        o.here.opening,
        o.here.last_is,
        o.here.room_is,
        (i.open_room room opened_now).close,
        omega (arith, o.left_is, o.to_is, full, f.0.to_is),
        refl,
      ),
    )
lawful_went c s ps hi p act row (exited room turn) i h e k y =
    let t = trace hi in
    let m : MarkOf s t (Exiting room turn) = mark_at s ps t c _ k e in
    ((m.1.opening, m.1.last_is, m.1.room_is, m.2, m.3), tt)
lawful_went c s ps hi p act row went i h e k y = (tt, tt)

-- a departure that is not the last of its opening
pub pairs_went : (c : ℕ) (s : Words) (ps : List Phase) (history : List Moment) (p : Phase) (act : Act) (row : Row)
    → Went c s p act row → Inv s ps (trace history) → c < length ps → phase ps c ≡ p
    → MarkedAt s ps (trace history)
    → Pairs row.1.one row.1.two (trace history)
pairs_went c s ps hi p act row (left room ticket first turn to short) i h e k = λ o last full.
    let t = trace hi in
    let f : Fits s (is_exiting t) (Inside room ticket first turn to) =
    fits_at s ps t c (Inside room ticket first turn to) i e in
    let opened_now : get_or s.done room 0 < get_or s.grant room 0 =
    inside_open s ps t c room ticket first turn to i e in
    let now = k.open_now room opened_now in
    let same : now.here.opening ≡ o = (let l = now.here.last_is in cc) in
    let from : now.here.opening.from ≡ o.from = ap (λ (z : Opening). z.from) same in
    let to_is : now.here.opening.to ≡ o.to = ap (λ (z : Opening). z.to) same in
    short (omega (arith, now.left_is, now.to_is, f.0.to_is, from, to_is, full))
pairs_went c s ps hi p act row w i h e k = tt
