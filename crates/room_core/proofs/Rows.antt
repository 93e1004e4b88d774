-- The invariant, row by row.
use Rattle.std.proofs.Common.{◌≡◌, ◌≢◌, ℕ, ◌+◌, ◌<◌, ◌≤◌, Bool, true, cond, List, length, get_or, set, Option, Some, None, refl, sym, ap, ◌∙◌, subst, inl, inr, arith, eqb, ltb, leb}
use Rattle.std.proofs.lemmas.Bool.{cases_lt, cond_both, leb-true, ltb-true, eqb-true}
use Rattle.std.proofs.lemmas.List.{get_or_past}
use Rattle.std.proofs.lemmas.List.Sums.{sum_by-set, sum_by-le-sum_by}
use Rattle.std.proofs.lemmas.Bool.Decides.{nat_tests}
use Rattle.room_core.specs.declared.phases.Phase.{Phase}
use Rattle.room_core.specs.declared.phases.Phase.TheVariants.{Out, Looking, Glancing, Seizing, Counting, Admitting, Turning, Inside, Peering, Scanning, Passing}
use Rattle.room_core.specs.declared.items.Item.{Item}
use Rattle.room_core.specs.Words.{Words}
use Rattle.room_core.specs.Active.{code_of}
use Rattle.room_core.specs.Trace.{occupant, is_exiting}
use Rattle.room_core.proofs.Backward.{AllInLast}
use Rattle.room_core.proofs.Lists.{each_set, sum_by-lt}
use Rattle.room_core.proofs.Invariant.{ticket_of, room_of, is_keeper, room_inside, above, holders, phase, Waits, Opens, Fits, Inv}

-- a caller with a ticket is in the list
pub is_caller : (ps : List Phase) (c : ℕ) → 0 < ticket_of (phase ps c) → c < length ps
is_caller ps c h = elim (cases_lt c (length ps)) [
  | inl l ↦ l
  | inr le ↦ absurd (let z : ticket_of (phase ps c) ≡ 0 = ap ticket_of (get_or_past ps c Out le) in omega arith)
]

pub above_le : (r x y : ℕ) → x ≤ y → (p : Phase) → above r y p ≤ above r x p
above_le r x y h p = grind (arith, nat_tests)

pub above_one : (r x : ℕ) (p : Phase) → room_of p ≡ r → x < ticket_of p → above r x p ≡ 1
above_one r x p e h = grind (arith, nat_tests)

pub above_zero : (r x : ℕ) (p : Phase) → ticket_of p ≤ x → above r x p ≡ 0
above_zero r x p h = grind (arith, nat_tests)

-- of the tickets above x one is at most y
pub fewer : (ps : List Phase) (c r x y : ℕ) → room_of (phase ps c) ≡ r → x < ticket_of (phase ps c)
    → ticket_of (phase ps c) ≤ y → x ≤ y → holders ps r y < holders ps r x
fewer ps c r x y e low high le =
    sum_by-lt (above r y) (above r x) ps c Out Out (is_caller ps c (omega arith))
    (above_le r x y le) (above_zero r y Out (omega arith)) (above_zero r x Out (omega arith))
    (let a : above r y (phase ps c) ≡ 0 = above_zero r y (phase ps c) high in
    let b : above r x (phase ps c) ≡ 1 = above_one r x (phase ps c) e low in omega arith)

-- the room of an admitted ticket is open
pub admitted_open : (s : Words) (ps : List Phase) (t : List Item) (c : ℕ) → Inv s ps t
    → 0 < ticket_of (phase ps c) → ticket_of (phase ps c) ≤ get_or s.grant (room_of (phase ps c)) 0
    → get_or s.done (room_of (phase ps c)) 0 < get_or s.grant (room_of (phase ps c)) 0
admitted_open s ps t c i low high =
    let r = room_of (phase ps c) in
    omega (
      arith,
      fewer ps c r 0 (get_or s.grant r 0) refl low high (omega arith),
      i.total r,
      i.later r (get_or s.grant r 0) (omega arith) (i.granted r),
      i.granted r,
    )

pub done_granted : (s : Words) (ps : List Phase) (t : List Item) → Inv s ps t → (r : ℕ)
    → get_or s.done r 0 ≤ get_or s.grant r 0
done_granted s ps t i r =
    omega (
      arith,
      sum_by-le-sum_by (above r (get_or s.grant r 0)) (above r 0) ps
          (above_le r 0 (get_or s.grant r 0) (omega arith)),
      i.total r,
      i.later r (get_or s.grant r 0) (omega arith) (i.granted r),
    )

pub inside_of : (s : Words) (now : Bool) (q : Phase) (r : ℕ) → Fits s now q → room_inside q ≡ Some r
    → (room_of q ≡ r) × (0 < ticket_of q) × (ticket_of q ≤ get_or s.grant (room_of q) 0)
inside_of s now (Inside room ticket first turn to) r f e = (cc, f.0.some, f.0.granted)
inside_of s now _ r f e = absurd (cc)

-- whoever is inside is in the room of the last Opened
pub now_apart : (s : Words) (ps : List Phase) (t : List Item) → Inv s ps t → AllInLast t
now_apart s ps t i c r e =
    let h = inside_of s (is_exiting t) (phase ps c) r (i.each c) (sym (i.occupied c) ∙ e) in
    let o = i.open_room (room_of (phase ps c)) (admitted_open s ps t c i h.1 h.2) in
    (o.last_is ∙ ap (λ k. Some k) h.0, o.close)

-- one keeper at most
pub one_set : (ps : List Phase) (c : ℕ) (p : Phase) → c < length ps
    → ((a b : ℕ) → is_keeper (phase ps a) ≡ true → is_keeper (phase ps b) ≡ true → a ≡ b)
    → (is_keeper p ≡ true → (d : ℕ) → d ≢ c → is_keeper (phase ps d) ≡ true → ⊥)
    → (a b : ℕ) → is_keeper (phase (set ps c p) a) ≡ true → is_keeper (phase (set ps c p) b) ≡ true
    → a ≡ b
one_set ps c p h one new =
    each_set (λ a q. (b : ℕ) → is_keeper q ≡ true → is_keeper (phase (set ps c p) b) ≡ true → a ≡ b)
    ps c p Out h
    (each_set (λ b q. is_keeper p ≡ true → is_keeper q ≡ true → c ≡ b) ps c p Out h (λ _ _. refl)
    (λ b ne kp kb. absurd (new kp b ne kb)))
    (λ a ne.
    each_set (λ b q. is_keeper (phase ps a) ≡ true → is_keeper q ≡ true → a ≡ b) ps c p Out h
    (λ ka kp. absurd (new kp a ne ka)) (λ b _. one a b))

pub holders_set : (ps : List Phase) (c : ℕ) (p : Phase) (r x : ℕ) → c < length ps
    → holders (set ps c p) r x + above r x (phase ps c) ≡ holders ps r x + above r x p
holders_set ps c p r x h = sum_by-set (above r x) ps c p Out h

-- A step that changes no word and no holding, and adds nothing to the trace.
pub still : (s : Words) (ps : List Phase) (t : List Item) (c : ℕ) (p : Phase) → Inv s ps t
    → c < length ps
    → Fits s (is_exiting t) p
    → (is_keeper p ≡ true → is_keeper (phase ps c) ≡ true)
    → ((r x : ℕ) → above r x p ≡ above r x (phase ps c))
    → room_inside p ≡ room_inside (phase ps c)
    → Inv s (set ps c p) t
still s ps t c p i h f k a o =
    let n : (r x : ℕ) → holders (set ps c p) r x ≡ holders ps r x =
    λ r x. omega (arith, holders_set ps c p r x h, a r x) in
    record {
      each = each_set (λ _ q. Fits s (is_exiting t) q) ps c p Out h f (λ d _. i.each d);
      one = one_set ps c p h i.one (λ kp d ne kd. ne (i.one d c kd (k kp)));
      open_room = i.open_room;
      idle = i.idle;
      occupied =
          each_set (λ d q. occupant d t ≡ room_inside q) ps c p Out h (i.occupied c ∙ sym o)
          (λ d _. i.occupied d);
      granted = i.granted;
      total = λ r. omega (arith, n r 0, i.total r);
      later = λ r x l u. omega (arith, n r x, i.later r x l u);
      grants = i.grants;
      dones = i.dones;
      few = i.few;
    }

pub still_at : (s : Words) (ps : List Phase) (t : List Item) (c : ℕ) (old p : Phase) → Inv s ps t
    → c < length ps → phase ps c ≡ old
    → Fits s (is_exiting t) p
    → (is_keeper p ≡ true → is_keeper old ≡ true)
    → ((r x : ℕ) → above r x p ≡ above r x old)
    → room_inside p ≡ room_inside old
    → Inv s (set ps c p) t
still_at s ps t c old p i h e f k a o =
    still s ps t c p i h f (λ kp. ap is_keeper e ∙ k kp) (λ r x. a r x ∙ sym (ap (above r x) e))
    (o ∙ sym (ap room_inside e))

pub fits_at : (s : Words) (ps : List Phase) (t : List Item) (c : ℕ) (old : Phase) → Inv s ps t
    → phase ps c ≡ old → Fits s (is_exiting t) old
fits_at s ps t c old i e = subst (Fits s (is_exiting t)) e (i.each c)

-- the room of who is inside is open: somebody that was let in has not left
pub inside_open : (s : Words) (ps : List Phase) (t : List Item) (c room ticket : ℕ) (first : Option ℕ) (turn to : ℕ)
    → Inv s ps t → phase ps c ≡ Inside room ticket first turn to
    → get_or s.done room 0 < get_or s.grant room 0
inside_open s ps t c room ticket first turn to i e =
    let f : Fits s (is_exiting t) (Inside room ticket first turn to) =
    fits_at s ps t c (Inside room ticket first turn to) i e in
    let a = admitted_open s ps t c i in
    let a' : 0 < ticket → ticket ≤ get_or s.grant room 0
    → get_or s.done room 0 < get_or s.grant room 0 =
    rw e at a in
    a' f.0.some f.0.granted

pub looking_kept : (s : Words) (ps : List Phase) (t : List Item) (c room ticket : ℕ) (first : Option ℕ)
    → Inv s ps t → c < length ps
    → phase ps c ≡ Looking room ticket first
    → Inv s
    (set ps c
    (cond (leb ticket (get_or s.grant room 0))
    (Turning room ticket first (get_or s.grant room 0)) (Glancing room ticket first))) t
looking_kept s ps t c room ticket first i h e =
    let f : Waits s room ticket = fits_at s ps t c (Looking room ticket first) i e in
    cond_both (leb ticket (get_or s.grant room 0))
    (Turning room ticket first (get_or s.grant room 0)) (Glancing room ticket first)
    (λ p. Inv s (set ps c p) t)
    (λ le. still_at s ps t c (Looking room ticket first) (Turning room ticket first (get_or s.grant room 0)) i h e
    (record { some = f.some; granted = leb-true ticket (get_or s.grant room 0) le; to_is = refl }) (λ k. k) (λ r x. refl) refl)
    (λ gt.
    still_at s ps t c (Looking room ticket first) (Glancing room ticket first) i h e f (λ k. k)
    (λ r x. refl) refl)

pub glancing_kept : (s : Words) (ps : List Phase) (t : List Item) (c room ticket : ℕ) (first first' : Option ℕ)
    → Inv s ps t → c < length ps
    → phase ps c ≡ Glancing room ticket first
    → Inv s
    (set ps c
    (cond (eqb (code_of s.active) 0) (Seizing room ticket first' s.active)
    (Looking room ticket first'))) t
glancing_kept s ps t c room ticket first first' i h e =
    let f : Waits s room ticket = fits_at s ps t c (Glancing room ticket first) i e in
    cond_both (eqb (code_of s.active) 0) (Seizing room ticket first' s.active)
    (Looking room ticket first') (λ p. Inv s (set ps c p) t)
    (λ z.
    still_at s ps t c (Glancing room ticket first) (Seizing room ticket first' s.active) i h e
    (f, eqb-true (code_of s.active) 0 z) (λ k. k) (λ r x. refl) refl)
    (λ nz.
    still_at s ps t c (Glancing room ticket first) (Looking room ticket first') i h e f (λ k. k)
    (λ r x. refl) refl)

pub counting_kept : (s : Words) (ps : List Phase) (t : List Item) (c room ticket : ℕ) (first : Option ℕ) (turn : ℕ)
    → Inv s ps t → c < length ps
    → phase ps c ≡ Counting room ticket first turn
    → Inv s (set ps c (Admitting room ticket first turn (get_or s.wait room 0))) t
counting_kept s ps t c room ticket first turn i h e =
    let f : Opens s (is_exiting t) room ticket turn =
    fits_at s ps t c (Counting room ticket first turn) i e in
    still_at s ps t c (Counting room ticket first turn)
    (Admitting room ticket first turn (get_or s.wait room 0)) i h e
    (f, f.more, f.drawn, omega arith) (λ k. k) (λ r x. refl) refl

pub scanning_kept : (s : Words) (ps : List Phase) (t : List Item) (c room turn k : ℕ) → Inv s ps t
    → c < length ps
    → phase ps c ≡ Scanning room turn k
    → Inv s (set ps c (Peering room turn k (get_or s.wait k 0))) t
scanning_kept s ps t c room turn k i h e =
    let f : Fits s (is_exiting t) (Scanning room turn k) =
    fits_at s ps t c (Scanning room turn k) i e in
    still_at s ps t c (Scanning room turn k) (Peering room turn k (get_or s.wait k 0)) i h e
    (f.0, f.1, omega arith) (λ z. z) (λ r x. refl) refl

pub peering_kept : (s : Words) (ps : List Phase) (t : List Item) (c room turn k w next : ℕ)
    → Inv s ps t → c < length ps
    → phase ps c ≡ Peering room turn k w
    → Inv s
    (set ps c
    (cond (ltb (get_or s.grant k 0) w) (Passing turn (Some k))
    (cond (eqb k room) (Passing turn None) (Scanning room turn next)))) t
peering_kept s ps t c room turn k w next i h e =
    let f : Fits s (is_exiting t) (Peering room turn k w) =
    fits_at s ps t c (Peering room turn k w) i e in
    cond_both (ltb (get_or s.grant k 0) w) (Passing turn (Some k))
    (cond (eqb k room) (Passing turn None) (Scanning room turn next)) (λ p. Inv s (set ps c p) t)
    (λ lt. let l : get_or s.grant k 0 < w = ltb-true (get_or s.grant k 0) w lt in
    still_at s ps t c (Peering room turn k w) (Passing turn (Some k)) i h e (f.0, omega (arith, f.2)) (λ z. z) (λ r x. refl) refl)
    (λ _. cond_both (eqb k room) (Passing turn None) (Scanning room turn next) (λ p. Inv s (set ps c p) t)
    (λ _.
    still_at s ps t c (Peering room turn k w) (Passing turn None) i h e (f.0, tt) (λ z. z)
    (λ r x. refl) refl)
    (λ _. still_at s ps t c (Peering room turn k w) (Scanning room turn next) i h e (f.0, f.1) (λ z. z) (λ r x. refl) refl))
