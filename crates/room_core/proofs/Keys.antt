-- The rows of the one that has the key, and of whoever enters and leaves.
use Rattle.std.proofs.Common.{◌≡◌, ◌≢◌, ℕ, ◌+◌, ◌*◌, ◌<◌, ◌≤◌, Bool, true, false, List, ◌∷◌, length, get_or, set, Option, Some, None, refl, sym, ap, ◌∙◌, inl, inr, ◌⊎◌, arith, eqb}
use Rattle.std.proofs.lemmas.Bool.{cases_lt, cases_eq, eq-eqb, ne_eqb, cond-true, cond-false}
use Rattle.std.proofs.lemmas.List.{length-set}
use Rattle.room_core.specs.declared.phases.Phase.{Phase}
use Rattle.room_core.specs.declared.phases.Phase.TheVariants.{Out, Seizing, Counting, Admitting, Turning, Inside, Exiting, Peering, Passing}
use Rattle.room_core.specs.declared.items.Item.{Item}
use Rattle.room_core.specs.declared.items.Item.TheVariants.{Entered, Left, ExitEnded}
use Rattle.room_core.specs.Words.{Words}
use Rattle.room_core.specs.Active.{turn_of, code_of}
use Rattle.room_core.specs.Trace.{occupant, last_room, is_closing, is_exiting}
use Rattle.room_core.proofs.Lists.{each_set, within}
use Rattle.room_core.proofs.Invariant.{ticket_of, room_of, is_keeper, room_inside, above, holders, phase, Admitted, Fits, IsOpen, Inv}
use Rattle.room_core.proofs.Rows.{above_one, above_zero, done_granted, one_set, holders_set, fits_at, inside_open}
use Rattle.room_core.proofs.Changes.{above_other, keeper_busy, fits_waiting, fits_left, late}

-- the others are no keepers, where one is or none can be
pub no_keeper : (s : Words) (ps : List Phase) (t : List Item) (d : ℕ) → Inv s ps t
    → ((r : ℕ) × (get_or s.done r 0 < get_or s.grant r 0)) ⊎ (code_of s.active ≡ 0)
    → is_keeper (phase ps d) ≡ true → ⊥
no_keeper s ps t d i why k = elim why [
  | inl o ↦ omega (arith, o.1, (keeper_busy s (is_exiting t) (phase ps d) (i.each d) k).1 o.0)
  | inr idle ↦ omega (arith, (keeper_busy s (is_exiting t) (phase ps d) (i.each d) k).0)
]

pub is_false : (b : Bool) → (b ≡ true → ⊥) → b ≡ false
is_false true h = absurd (h refl)
is_false false h = refl

pub code_of_pack : (turn code : ℕ) → code < 8 → code_of (8 * turn + code) ≡ code
code_of_pack turn code h = omega arith

pub turn_of_pack : (turn code : ℕ) → code < 8 → turn_of (8 * turn + code) ≡ turn
turn_of_pack turn code h = omega arith

-- while idle no room is open
pub idle_shut : (s : Words) (ps : List Phase) (t : List Item) → Inv s ps t → code_of s.active ≡ 0
    → (r : ℕ) → get_or s.done r 0 ≡ get_or s.grant r 0
idle_shut s ps t i z r = elim (cases_lt (get_or s.done r 0) (get_or s.grant r 0)) [
  | inl l ↦ absurd (omega (arith, (i.open_room r l).code))
  | inr ge ↦ omega (arith, ge, done_granted s ps t i r)
]

pub seized_kept : (s : Words) (ps : List Phase) (t : List Item) (c room ticket : ℕ) (first : Option ℕ)
    → Inv s ps t → c < length ps
    → phase ps c ≡ Seizing room ticket first s.active
    → Inv (record s { active = 8 * (turn_of s.active + 1) + (room + 1) })
    (set ps c (Counting room ticket first (turn_of s.active + 1))) t
seized_kept s ps t c room ticket first i h e =
    let f : Fits s (is_exiting t) (Seizing room ticket first s.active) =
    fits_at s ps t c (Seizing room ticket first s.active) i e in
    let p : Phase = Counting room ticket first (turn_of s.active + 1) in
    let a : ℕ = 8 * (turn_of s.active + 1) + (room + 1) in
    let shut = idle_shut s ps t i f.1 in
    let small : room < length s.wait = within s.wait room (omega (arith, f.0.some, f.0.drawn)) in
    let code : code_of a ≡ room + 1 =
    code_of_pack (turn_of s.active + 1) (room + 1) (omega (arith, small, i.few)) in
    let turn : turn_of a ≡ turn_of s.active + 1 =
    turn_of_pack (turn_of s.active + 1) (room + 1) (omega (arith, small, i.few)) in
    let mine : get_or s.grant room 0 < ticket =
    (let l : 0 < ticket_of (phase ps c)
    → get_or s.grant (room_of (phase ps c)) 0 < ticket_of (phase ps c) =
    late s ps t i shut c in
    rw e at l) f.0.some in
    let same : (r x : ℕ) → holders (set ps c p) r x ≡ holders ps r x =
    λ r x.
    (let a : above r x (phase ps c) ≡ above r x p = ap (above r x) e in
    omega (arith, holders_set ps c p r x h, a)) in
    record {
      each = each_set (λ _ q. Fits (record s { active = a }) (is_exiting t) q) ps c p Out h
          (record {
            keeps = record {
              turn_is = sym turn;
              busy = omega (arith, code);
              shut = shut;
              exit = i.idle f.1;
            };
            code = omega (arith, code);
            more = omega (arith, mine, f.0.drawn);
            late = λ _. mine;
            drawn = f.0.drawn;
          })
          (λ d _.
          fits_waiting s a s.grant s.done (is_exiting t) (is_exiting t) (phase ps d) (i.each d)
          (is_false (is_keeper (phase ps d)) (no_keeper s ps t d i (inr f.1)))
          (late s ps t i shut d));
      one = one_set ps c p h i.one (λ _ d _. no_keeper s ps t d i (inr f.1));
      open_room = λ r l. absurd (omega (arith, shut r, l));
      idle = λ z. absurd (omega (arith, code, z));
      occupied =
          each_set (λ d q. occupant d t ≡ room_inside q) ps c p Out h
          (i.occupied c ∙ ap room_inside e) (λ d _. i.occupied d);
      granted = i.granted;
      total = λ r. omega (arith, same r 0, i.total r);
      later = λ r x l u. omega (arith, same r x, i.later r x l u);
      grants = i.grants;
      dones = i.dones;
      few = i.few;
    }

-- the store of the grant, of an opener with p behind it: inside, or out
pub admitted_kept : (s : Words) (ps : List Phase) (t t' : List Item) (c room ticket : ℕ) (first : Option ℕ) (turn to : ℕ) (p : Phase)
    → Inv s ps t → c < length ps
    → phase ps c ≡ Admitting room ticket first turn to
    → Fits (record s { grant = set s.grant room to }) (is_exiting t') p → is_keeper p ≡ false
    → ((r x : ℕ) → above r x p ≡ above r x (Admitting room ticket first turn to))
    → is_exiting t' ≡ is_exiting t → is_closing t' ≡ false → last_room t' ≡ Some room
    → occupant c t' ≡ room_inside p → ((d : ℕ) → d ≢ c → occupant d t' ≡ occupant d t)
    → Inv (record s { grant = set s.grant room to }) (set ps c p) t'
admitted_kept s ps t t' c room ticket first turn to p i h e fp kp ap_p ex cl la oc od =
    let f : Fits s (is_exiting t) (Admitting room ticket first turn to) =
    fits_at s ps t c (Admitting room ticket first turn to) i e in
    let small : room < length s.wait = within s.wait room (omega (arith, f.0.more)) in
    let small' : room < length s.grant = omega (arith, small, i.grants) in
    let shut = f.0.keeps.shut in
    let grown : (k : ℕ) → get_or s.grant k 0 ≤ get_or (set s.grant room to) k 0 =
    each_set (λ k v. get_or s.grant k 0 ≤ v) s.grant room to 0 small' (omega (arith, f.1))
    (λ k _. omega arith) in
    let others : (d : ℕ) → d ≢ c → is_keeper (phase ps d) ≡ true → ⊥ =
    λ d ne kd. ne (i.one d c kd (ap is_keeper e)) in
    let same : (r x : ℕ) → holders (set ps c p) r x ≡ holders ps r x =
    λ r x.
    (let a : above r x (phase ps c) ≡ above r x p = ap (above r x) e ∙ sym (ap_p r x) in
    omega (arith, holders_set ps c p r x h, a)) in
    record {
      each =
          each_set (λ _ q. Fits (record s { grant = set s.grant room to }) (is_exiting t') q) ps c p
          Out h fp
          (λ d ne.
          fits_waiting s s.active (set s.grant room to) s.done (is_exiting t) (is_exiting t')
          (phase ps d) (i.each d) (is_false (is_keeper (phase ps d)) (others d ne))
          (late s ps t i shut d));
      one = one_set ps c p h i.one (λ k. absurd (cc));
      open_room =
          each_set
          (λ k v.
          get_or s.done k 0 < v
          → IsOpen s.active (is_exiting t') (is_closing t') (last_room t') k) s.grant room to 0
          small'
          (λ _. record { code = f.0.code; exit = ex ∙ f.0.keeps.exit; close = cl; last_is = la })
          (λ k _ l. absurd (omega (arith, shut k, l)));
      idle = λ z. absurd (omega (arith, f.0.code, z));
      occupied =
          each_set (λ d q. occupant d t' ≡ room_inside q) ps c p Out h oc
          (λ d ne. od d ne ∙ i.occupied d);
      granted =
          each_set (λ k v. v ≤ get_or s.wait k 0) s.grant room to 0 small' f.3 (λ k _. i.granted k);
      total = λ r. omega (arith, same r 0, i.total r);
      later = λ r x l u. omega (arith, same r x, i.later r x (omega (arith, l, grown r)) u);
      grants = length-set s.grant room to ∙ i.grants;
      dones = i.dones;
      few = i.few;
    }

-- the store of the active word, by whoever passes the key on to room k, or makes the word idle
pub passed_kept : (s : Words) (ps : List Phase) (t : List Item) (c turn : ℕ) (next : Option ℕ) (a : ℕ) (p : Phase)
    → Inv s ps t → c < length ps
    → phase ps c ≡ Passing turn next
    → Fits (record s { active = a }) (is_exiting t) p → ((r x : ℕ) → above r x p ≡ 0)
    → room_inside p ≡ None
    → Inv (record s { active = a }) (set ps c p) t
passed_kept s ps t c turn next a p i h e fp none in_none =
    let f : Fits s (is_exiting t) (Passing turn next) = fits_at s ps t c (Passing turn next) i e in
    let shut = f.0.shut in
    let others : (d : ℕ) → d ≢ c → is_keeper (phase ps d) ≡ true → ⊥ =
    λ d ne kd. ne (i.one d c kd (ap is_keeper e)) in
    let same : (r x : ℕ) → holders (set ps c p) r x ≡ holders ps r x =
    λ r x.
    (let z : above r x (phase ps c) ≡ above r x p =
    ap (above r x) e ∙ above_zero r x (Passing turn next) (omega arith)
    ∙ sym (none r x) in
    omega (arith, holders_set ps c p r x h, z)) in
    record {
      each = each_set (λ _ q. Fits (record s { active = a }) (is_exiting t) q) ps c p Out h fp
          (λ d ne.
          fits_waiting s a s.grant s.done (is_exiting t) (is_exiting t) (phase ps d) (i.each d)
          (is_false (is_keeper (phase ps d)) (others d ne)) (late s ps t i shut d));
      one = one_set ps c p h i.one (λ _. others);
      open_room = λ r l. absurd (omega (arith, shut r, l));
      idle = λ _. f.0.exit;
      occupied =
          each_set (λ d q. occupant d t ≡ room_inside q) ps c p Out h
          (i.occupied c ∙ ap room_inside e ∙ sym in_none) (λ d _. i.occupied d);
      granted = i.granted;
      total = λ r. omega (arith, same r 0, i.total r);
      later = λ r x l u. omega (arith, same r x, i.later r x l u);
      grants = i.grants;
      dones = i.dones;
      few = i.few;
    }

pub pass_to_kept : (s : Words) (ps : List Phase) (t : List Item) (c turn k : ℕ) → Inv s ps t
    → c < length ps
    → phase ps c ≡ Passing turn (Some k)
    → Inv (record s { active = 8 * (turn + 1) + (k + 1) }) (set ps c (Counting k 0 None (turn + 1)))
    t
pass_to_kept s ps t c turn k i h e =
    let f : Fits s (is_exiting t) (Passing turn (Some k)) =
    fits_at s ps t c (Passing turn (Some k)) i e in
    let a : ℕ = 8 * (turn + 1) + (k + 1) in
    let small : k < length s.wait = within s.wait k (omega (arith, f.1)) in
    let code : code_of a ≡ k + 1 = code_of_pack (turn + 1) (k + 1) (omega (arith, small, i.few)) in
    let turn_is : turn_of a ≡ turn + 1 =
    turn_of_pack (turn + 1) (k + 1) (omega (arith, small, i.few)) in
    passed_kept s ps t c turn (Some k) a (Counting k 0 None (turn + 1)) i h e
    (record {
      keeps = record {
        turn_is = sym turn_is;
        busy = omega (arith, code);
        shut = f.0.shut;
        exit = f.0.exit;
      };
      code = omega (arith, code);
      more = f.1;
      late = λ z. absurd (omega (arith, z));
      drawn = omega arith;
    })
    (λ r x. above_zero r x (Counting k 0 None (turn + 1)) (omega arith)) refl

pub pass_idle_kept : (s : Words) (ps : List Phase) (t : List Item) (c turn a : ℕ) → Inv s ps t
    → c < length ps
    → phase ps c ≡ Passing turn None
    → Inv (record s { active = a }) (set ps c Out) t
pass_idle_kept s ps t c turn a i h e =
    passed_kept s ps t c turn None a Out i h e tt (λ r x. above_zero r x Out (omega arith)) refl

-- the turn load: a caller goes in
pub turning_kept : (s : Words) (ps : List Phase) (t : List Item) (c room ticket : ℕ) (first first' : Option ℕ) (to : ℕ)
    → Inv s ps t → c < length ps
    → phase ps c ≡ Turning room ticket first to
    → Inv s (set ps c (Inside room ticket first' (turn_of s.active) to)) (Entered c room ∷ t)
turning_kept s ps t c room ticket first first' to i h e =
    let f : Admitted s room ticket to = fits_at s ps t c (Turning room ticket first to) i e in
    let p : Phase = Inside room ticket first' (turn_of s.active) to in
    let same : (r x : ℕ) → holders (set ps c p) r x ≡ holders ps r x =
    λ r x.
    (let z : above r x (phase ps c) ≡ above r x p = ap (above r x) e in
    omega (arith, holders_set ps c p r x h, z)) in
    record {
      each = each_set (λ _ q. Fits s (is_exiting t) q) ps c p Out h (f, refl) (λ d _. i.each d);
      one = one_set ps c p h i.one (λ k. absurd (cc));
      open_room = i.open_room;
      idle = i.idle;
      occupied = each_set (λ d q. occupant d (Entered c room ∷ t) ≡ room_inside q) ps c p Out h
          (cond-true (eqb c c) (Some room) (occupant c t) (eq-eqb c c refl))
          (λ d ne.
          cond-false (eqb c d) (Some room) (occupant d t) (ne_eqb c d (λ q. ne (sym q)))
          ∙ i.occupied d);
      granted = i.granted;
      total = λ r. omega (arith, same r 0, i.total r);
      later = λ r x l u. omega (arith, same r x, i.later r x l u);
      grants = i.grants;
      dones = i.dones;
      few = i.few;
    }

pub exiting_kept : (s : Words) (ps : List Phase) (t : List Item) (c room turn k : ℕ) → Inv s ps t
    → c < length ps
    → phase ps c ≡ Exiting room turn
    → Inv s (set ps c (Peering room turn k (get_or s.wait k 0))) (ExitEnded room ∷ t)
exiting_kept s ps t c room turn k i h e =
    let f : Fits s (is_exiting t) (Exiting room turn) = fits_at s ps t c (Exiting room turn) i e in
    let p : Phase = Peering room turn k (get_or s.wait k 0) in
    let others : (d : ℕ) → d ≢ c → is_keeper (phase ps d) ≡ true → ⊥ =
    λ d ne kd. ne (i.one d c kd (ap is_keeper e)) in
    let same : (r x : ℕ) → holders (set ps c p) r x ≡ holders ps r x =
    λ r x.
    (let z : above r x (phase ps c) ≡ above r x p = ap (above r x) e in
    omega (arith, holders_set ps c p r x h, z)) in
    record {
      each = each_set (λ _ q. Fits s false q) ps c p Out h (
        record { turn_is = f.0.turn_is; busy = f.0.busy; shut = f.0.shut; exit = refl },
        f.1,
        omega arith,
      )
          (λ d ne.
          fits_left s s.done (is_exiting t) false (phase ps d) (i.each d)
          (is_false (is_keeper (phase ps d)) (others d ne)));
      one = one_set ps c p h i.one (λ _. others);
      open_room = λ r l. absurd (omega (arith, f.0.shut r, l));
      idle = λ _. refl;
      occupied =
          each_set (λ d q. occupant d t ≡ room_inside q) ps c p Out h
          (i.occupied c ∙ ap room_inside e) (λ d _. i.occupied d);
      granted = i.granted;
      total = λ r. omega (arith, same r 0, i.total r);
      later = λ r x l u. omega (arith, same r x, i.later r x l u);
      grants = i.grants;
      dones = i.dones;
      few = i.few;
    }

-- a caller leaves, and is out, or has the key
pub left_kept : (s : Words) (ps : List Phase) (t t' : List Item) (c room ticket : ℕ) (first : Option ℕ) (turn to : ℕ) (p : Phase)
    → Inv s ps t → c < length ps
    → phase ps c ≡ Inside room ticket first turn to
    → Fits (record s { done = set s.done room (get_or s.done room 0 + 1) }) (is_exiting t') p
    → ((r x : ℕ) → above r x p ≡ 0)
    → room_inside p ≡ None
    → (get_or s.done room 0 + 1 < get_or s.grant room 0
    → (is_exiting t' ≡ is_exiting t) × (is_closing t' ≡ is_closing t))
    → last_room t' ≡ last_room t
    → ((d : ℕ) → occupant d t' ≡ occupant d (Left c ∷ t))
    → Inv (record s { done = set s.done room (get_or s.done room 0 + 1) }) (set ps c p) t'
left_kept s ps t t' c room ticket first turn to p i h e fp none in_none ex la od =
    let f : Fits s (is_exiting t) (Inside room ticket first turn to) =
    fits_at s ps t c (Inside room ticket first turn to) i e in
    let o = get_or s.done room 0 in
    let d' : List ℕ = set s.done room (o + 1) in
    let opened : o < get_or s.grant room 0 =
    inside_open s ps t c room ticket first turn to i e in
    let small : room < length s.wait = within s.wait room (omega (arith, opened, i.granted room)) in
    let small' : room < length s.done = omega (arith, small, i.dones) in
    let io : IsOpen s.active (is_exiting t) (is_closing t) (last_room t) room =
    i.open_room room opened in
    let nobody : (d : ℕ) → is_keeper (phase ps d) ≡ true → ⊥ =
    λ d. no_keeper s ps t d i (inl (room, opened)) in
    let old : (r x : ℕ) → above r x (phase ps c) ≡ above r x (Inside room ticket first turn to) =
    λ r x. ap (above r x) e in
    record {
      each = each_set (λ _ q. Fits (record s { done = d' }) (is_exiting t') q) ps c p Out h fp
          (λ d ne.
          fits_left s d' (is_exiting t) (is_exiting t') (phase ps d) (i.each d)
          (is_false (is_keeper (phase ps d)) (nobody d)));
      one = one_set ps c p h i.one (λ _ d _. nobody d);
      open_room =
          each_set
          (λ k v.
          v < get_or s.grant k 0
          → IsOpen s.active (is_exiting t') (is_closing t') (last_room t') k) s.done room (o + 1) 0
          small'
          (λ l.
          record {
            code = io.code;
            exit = (ex l).0 ∙ io.exit;
            close = (ex l).1 ∙ io.close;
            last_is = la ∙ io.last_is;
          })
          (λ k ne l. absurd (ne (omega (arith, io.code, (i.open_room k l).code))));
      idle = λ z. absurd (omega (arith, io.code, z));
      occupied = each_set (λ d q. occupant d t' ≡ room_inside q) ps c p Out h
          (od c ∙ cond-true (eqb c c) None (occupant c t) (eq-eqb c c refl) ∙ sym in_none)
          (λ d ne.
          od d ∙ cond-false (eqb c d) None (occupant d t) (ne_eqb c d (λ q. ne (sym q)))
          ∙ i.occupied d);
      granted = i.granted;
      total =
          each_set (λ k v. holders (set ps c p) k 0 + v ≡ get_or s.wait k 0) s.done room (o + 1) 0
          small'
          (omega (
            arith,
            holders_set ps c p room 0 h,
            none room 0,
            old room 0,
            above_one room 0 (Inside room ticket first turn to) refl f.0.some,
            i.total room,
          ))
          (λ k ne.
          omega (
            arith,
            holders_set ps c p k 0 h,
            none k 0,
            old k 0,
            above_other k 0 (Inside room ticket first turn to) (λ q. ne (sym q)),
            i.total k,
          ));
      later = λ r x l u. elim (cases_eq r room) [
        | inl er ↦ (let ge : ticket ≤ x = (let l' : get_or s.grant room 0 ≤ x = rw er at l in omega (arith, l', f.0.granted)) in
            omega (arith, holders_set ps c p r x h, none r x, old r x, above_zero r x (Inside room ticket first turn to) ge, i.later r x l u))
        | inr ne ↦ omega (arith, holders_set ps c p r x h, none r x, old r x, above_other r x (Inside room ticket first turn to) (λ q. ne (sym q)), i.later r x l u)
      ];
      grants = i.grants;
      dones = length-set s.done room (o + 1) ∙ i.dones;
      few = i.few;
    }
