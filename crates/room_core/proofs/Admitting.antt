-- Tickets, and the openings that let them in.
use Rattle.std.proofs.Common.{◌≡◌, ℕ, zero, suc, ◌+◌, ◌<◌, ◌≤◌, Bool, true, false, cond, List, [], ◌∷◌, ◌++◌, length, reverse, option_to_list, Option, Some, None, refl, sym, ap, ◌∙◌, subst, inl, inr, ◌⊎◌, arith, eqb, ◌&&◌}
use Rattle.std.specs.Prelude.{Contains, slice_get}
use Rattle.std.specs.List.{last_or}
use Rattle.std.proofs.lemmas.List.{append-nil, append_assoc, reverse-append, reverse-reverse, length_push}
use Rattle.std.proofs.lemmas.List.Elements.{filter_map-append, Contains-push_cases, Contains-append_left, Contains-append_right}
use Rattle.std.proofs.lemmas.Bool.{cond_both, eqb-true, eqb-false, and_from, and_left, and_right}
use Rattle.std.proofs.lemmas.Grind.{flat_map-append}
use Rattle.room_core.specs.declared.acts.Act.{Act}
use Rattle.room_core.specs.declared.acts.Act.TheVariants.{Draw, Step, Leave}
use Rattle.room_core.specs.declared.words.Touch.{Touch}
use Rattle.room_core.specs.declared.words.Touch.TheVariants.{Load}
use Rattle.room_core.specs.declared.words.Word.TheVariants.{Wait}
use Rattle.room_core.specs.declared.items.Item.{Item}
use Rattle.room_core.specs.declared.items.Item.TheVariants.{Opened, Entered, Left, ExitBegun, ExitEnded}
use Rattle.room_core.specs.declared.items.Opening.{Opening}
use Rattle.room_core.specs.Runs.{Moment}
use Rattle.room_core.specs.Trace.{trace, onto, all_opened, openings}
use Rattle.room_core.specs.Order.{gains, trace_of, LastOf, Gain, past}
use Rattle.room_core.specs.Openings.{opening_of, opened, last_opened, granted, Admits}
use Rattle.room_core.specs.Admission.{is_draw, is_draw_of, loads_wait, drawn, Holds, Counted, LetIn, IsAdmission}
use Rattle.room_core.proofs.Backward.{drew, draws, draw_by, last_draw, wait_by, draws_at_load, last_to, Lawful, LawfulAt, LawfulBack, Pairs}
use Rattle.room_core.proofs.Order.{reverse-cons, split_back_at, nil_parts, count-cons, count-push, count-reverse, gained_cases, trace_of-reverse, trace-reverse, all_opened-reverse, last_opening-reverse, last_to-granted}

-- what an opening says of those before it
abbrev OpensAt : Item → List Item → Type 0
OpensAt (Opened turn r from to) past =
    (turn ≡ openings past + 1) × (from ≡ last_to r past) × (from < to)
OpensAt _ past = Unit {0}

abbrev pub OpensBack : List Item → Type 0
OpensBack [] = Unit {0}
OpensBack (i ∷ past) = OpensAt i past × OpensBack past

opens_item : (c : ℕ) (h : List Moment) (i : Item) (past : List Item) → Lawful c h i past
    → OpensAt i past
opens_item c h (Opened turn r from to) past a = (a.0, a.1, a.2)
opens_item c h (Entered d r) past a = tt
opens_item c h (Left d) past a = tt
opens_item c h (ExitBegun r) past a = tt
opens_item c h (ExitEnded r) past a = tt

opens_onto : (c : ℕ) (h : List Moment) (i : Option Item) (t : List Item) → LawfulAt c h i t
    → OpensBack t → OpensBack (onto i t)
opens_onto c h None t a k = k
opens_onto c h (Some i) t a k = (opens_item c h i t a, k)

pub opens_back : (h : List Moment) → LawfulBack h → OpensBack (trace h)
opens_back [] k = tt
opens_back (m ∷ h) k =
    opens_onto m.caller h m.event.two (onto m.event.one (trace h)) k.1
    (opens_onto m.caller h m.event.one (trace h) k.0 (opens_back h k.2))

-- the turns
pub length_opened : (t : List Item) → length (all_opened t) ≡ openings t
length_opened [] = refl
length_opened (Opened turn r from to ∷ t) =
    omega (
      arith,
      length_push (all_opened t) (record { turn = turn; room = r; from = from; to = to }),
      length_opened t,
    )
length_opened (Entered c r ∷ t) = length_opened t
length_opened (Left c ∷ t) = length_opened t
length_opened (ExitBegun r ∷ t) = length_opened t
length_opened (ExitEnded r ∷ t) = length_opened t

get_push : {A : Type 0} (xs : List A) (x y : A) (i : ℕ) → slice_get (xs ++ x ∷ []) i ≡ Some y
    → (slice_get xs i ≡ Some y) ⊎ ((i ≡ length xs) × (x ≡ y))
get_push [] x y zero e = inr (refl, cc)
get_push [] x y (suc i) e = absurd (cc)
get_push (z ∷ xs) x y zero e = inl e
get_push (z ∷ xs) x y (suc i) e =
    elim (get_push xs x y i e) [ inl old ↦ inl old | inr new ↦ inr (ap suc new.0, new.1) ]

turns_back : (t : List Item) → OpensBack t → (i : ℕ) (o : Opening)
    → slice_get (all_opened t) i ≡ Some o → o.turn ≡ i + 1
turns_back [] k i o e = absurd (cc)
turns_back (Opened turn r from to ∷ t) k i o e = elim (get_push (all_opened t) (record { turn = turn; room = r; from = from; to = to }) o i e) [
  | inl old ↦ turns_back t k.1 i o old
  | inr new ↦ omega (arith, new.0, ap (λ (z : Opening). z.turn) new.1, k.0.0, length_opened t)
]
turns_back (Entered c r ∷ t) k i o e = turns_back t k.1 i o e
turns_back (Left c ∷ t) k i o e = turns_back t k.1 i o e
turns_back (ExitBegun r ∷ t) k i o e = turns_back t k.1 i o e
turns_back (ExitEnded r ∷ t) k i o e = turns_back t k.1 i o e

-- each opening goes on where the one before of its room ended
push_split : {A : Type 0} (xs : List A) (x : A) (before : List A) (y : A) (after : List A)
    → xs ++ x ∷ [] ≡ before ++ y ∷ after
    → ((xs ≡ before) × (x ≡ y)) ⊎ ((rest : List A) × (xs ≡ before ++ y ∷ rest))
push_split [] x [] y after e = inl (refl, cc)
push_split [] x (b ∷ before) y after e =
    absurd
    (let n : [] ≡ before ++ y ∷ after = cc in
    let z = nil_parts before (y ∷ after) (sym n) in cc z.1)
push_split (z ∷ xs) x [] y after e = inr (xs, let h : z ≡ y = cc in ap (λ w. w ∷ xs) h)
push_split (z ∷ xs) x (b ∷ before) y after e =
    let head : z ≡ b = cc in let tail : xs ++ x ∷ [] ≡ before ++ y ∷ after = cc in
    elim (push_split xs x before y after tail) [
      | inl here ↦ inl (ap (λ w. w ∷ xs) head ∙ ap (λ w. b ∷ w) here.0, here.1)
      | inr further ↦ inr (further.0, ap (λ w. w ∷ xs) head ∙ ap (λ w. b ∷ w) further.1)
    ]

goes_on_back : (t : List Item) → OpensBack t → (before after : List Opening) (o : Opening)
    → all_opened t ≡ before ++ o ∷ after → (o.from ≡ granted before o.room) × (o.from < o.to)
goes_on_back [] k before after o e = absurd (let z = nil_parts before (o ∷ after) (sym e) in cc z.1)
goes_on_back (Opened turn r from to ∷ t) k before after o e = elim (push_split (all_opened t) (record { turn = turn; room = r; from = from; to = to }) before o after e) [
  | inl here ↦ (let from_is : from ≡ o.from = ap (λ (z : Opening). z.from) here.1 in let to_is : to ≡ o.to = ap (λ (z : Opening). z.to) here.1 in
      (sym from_is ∙ k.0.1 ∙ last_to-granted r t ∙ ap (λ z. granted z r) here.0 ∙ ap (λ (z : Opening). granted before z.room) here.1, omega (arith, k.0.2, from_is, to_is)))
  | inr further ↦ goes_on_back t k.1 before further.0 o further.1
]
goes_on_back (Entered c r ∷ t) k before after o e = goes_on_back t k.1 before after o e
goes_on_back (Left c ∷ t) k before after o e = goes_on_back t k.1 before after o e
goes_on_back (ExitBegun r ∷ t) k before after o e = goes_on_back t k.1 before after o e
goes_on_back (ExitEnded r ∷ t) k before after o e = goes_on_back t k.1 before after o e

-- an opening let in no more than was let in up to now
pub to_low : (t : List Item) → OpensBack t → (o : Opening) → Contains (all_opened t) o
    → o.to ≤ last_to o.room t
to_low [] k o h = absurd (omega (arith, h.1))
to_low (Opened turn r from to ∷ t) k o h = elim (Contains-push_cases (all_opened t) (record { turn = turn; room = r; from = from; to = to }) o h) [
  | inl old ↦ cond_both (eqb r o.room) to (last_to o.room t) (λ z. o.to ≤ z)
      (λ q.
      let f : last_to r t ≡ last_to o.room t =
      ap (λ (z : ℕ). last_to z t) (eqb-true r o.room q) in
      omega (arith, to_low t k.1 o old, f, k.0.1, k.0.2))
      (λ _. to_low t k.1 o old)
  | inr new ↦ cond_both (eqb r o.room) to (last_to o.room t) (λ z. o.to ≤ z)
      (λ _. let f : to ≡ o.to = ap (λ (z : Opening). z.to) new in omega arith)
      (λ q. absurd (eqb-false r o.room q (ap (λ (z : Opening). z.room) new)))
]
to_low (Entered c r ∷ t) k o h = to_low t k.1 o h
to_low (Left c ∷ t) k o h = to_low t k.1 o h
to_low (ExitBegun r ∷ t) k o h = to_low t k.1 o h
to_low (ExitEnded r ∷ t) k o h = to_low t k.1 o h

-- one opening lets a ticket in
pub one_admits : (t : List Item) → OpensBack t → (o p : Opening) (room ticket : ℕ)
    → Contains (all_opened t) o → Contains (all_opened t) p → Admits o room ticket
    → Admits p room ticket → p ≡ o
one_admits [] k o p room ticket a b ao ap' = absurd (omega (arith, a.1))
one_admits (Opened turn r from to ∷ t) k o p room ticket a b ao bo =
    let x : Opening = record { turn = turn; room = r; from = from; to = to } in
    elim (Contains-push_cases (all_opened t) x o a) [
      | inl old ↦ elim (Contains-push_cases (all_opened t) x p b) [
        | inl older ↦ one_admits t k.1 o p room ticket old older ao bo
        | inr new ↦ absurd (let e : from ≡ p.from = ap (λ (z : Opening). z.from) new in let q : r ≡ o.room = ap (λ (z : Opening). z.room) new ∙ bo.of_room ∙ sym ao.of_room in
            omega (arith, to_low t k.1 o old, ap (λ (z : ℕ). last_to z t) q, k.0.1, e, ao.up_to, bo.above))
      ]
      | inr new ↦ elim (Contains-push_cases (all_opened t) x p b) [
        | inl older ↦ absurd (let e : from ≡ o.from = ap (λ (z : Opening). z.from) new in let q : r ≡ p.room = ap (λ (z : Opening). z.room) new ∙ ao.of_room ∙ sym bo.of_room in
            omega (arith, to_low t k.1 p older, ap (λ (z : ℕ). last_to z t) q, k.0.1, e, bo.up_to, ao.above))
        | inr newer ↦ sym newer ∙ new
      ]
    ]
one_admits (Entered c r ∷ t) k o p room ticket a b ao bo =
    one_admits t k.1 o p room ticket a b ao bo
one_admits (Left c ∷ t) k o p room ticket a b ao bo = one_admits t k.1 o p room ticket a b ao bo
one_admits (ExitBegun r ∷ t) k o p room ticket a b ao bo =
    one_admits t k.1 o p room ticket a b ao bo
one_admits (ExitEnded r ∷ t) k o p room ticket a b ao bo =
    one_admits t k.1 o p room ticket a b ao bo

-- the last moment that passes a test
abbrev last_here : (test : Moment → Bool) (h : List Moment) (m : Moment) → test m ≡ true
    → LastOf test (reverse (m ∷ h))
last_here test h m e = record {
  before = reverse h;
  moment = m;
  after = [];
  stands = reverse-cons m h;
  passes = e;
  is_last = refl;
}

abbrev last_further : (test : Moment → Bool) (h : List Moment) (m : Moment) → test m ≡ false
    → LastOf test (reverse h) → LastOf test (reverse (m ∷ h))
last_further test h m e l = record {
  before = l.before;
  moment = l.moment;
  after = l.after ++ m ∷ [];
  stands =
      reverse-cons m h ∙ ap (λ z. z ++ m ∷ []) l.stands
      ∙ append_assoc l.before (l.moment ∷ l.after) (m ∷ []);
  passes = l.passes;
  is_last =
      count-push test l.after m ∙ omega (arith, l.is_last, ap (λ (b : Bool). cond {A = ℕ} b 1 0) e);
}

drew-count : (r : ℕ) (a : Act) → drew r a ≡ cond (is_draw_of r a) 1 0
drew-count r (Draw q) = refl
drew-count r Step = refl
drew-count r Leave = refl

draws-drawn : (r : ℕ) (h : List Moment) → draws r h ≡ drawn r h
draws-drawn r [] = refl
draws-drawn r (m ∷ h) =
    omega (
      arith,
      draws-drawn r h,
      drew-count r m.act,
      count-cons (λ (x : Moment). is_draw_of r x.act) m h,
    )

pub draws-reverse : (r : ℕ) (h : List Moment) → draws r h ≡ drawn r (reverse h)
draws-reverse r h = draws-drawn r h ∙ sym (count-reverse (λ (x : Moment). is_draw_of r x.act) h)

some_pair : (a b : ℕ × ℕ) → Some a ≡ Some b → a ≡ b
some_pair a b e = cc

-- the ticket of the caller's last draw
holds_step : (c r t : ℕ) (h : List Moment) (m : Moment) (b : Bool) (a : Act) → eqb m.caller c ≡ b
    → m.act ≡ a → cond b (draw_by a h (last_draw c h)) (last_draw c h) ≡ Some (r, t)
    → (last_draw c h ≡ Some (r, t) → Holds (reverse h) c r t) → Holds (reverse (m ∷ h)) c r t
holds_step c r t h m false a eb ea e before =
    let old = before e in
    record { draw = last_further (λ (x : Moment). eqb x.caller c && is_draw x.act) h m (and_left (eqb m.caller c) (is_draw m.act) eb) old.draw; of_room = old.of_room; number = old.number }
holds_step c r t h m true (Draw q) eb ea e before =
    let pair : ◌≡◌ {A = ℕ × ℕ} (q, draws q h + 1) (r, t) =
    some_pair (q, draws q h + 1) (r, t) e in let room : q ≡ r = ap (λ (z : ℕ × ℕ). z.0) pair in
    let number : draws q h + 1 ≡ t = ap (λ (z : ℕ × ℕ). z.1) pair in
    record {
      draw =
          last_here (λ (x : Moment). eqb x.caller c && is_draw x.act) h m
          (and_from (eqb m.caller c) (is_draw m.act) eb (ap is_draw ea));
      of_room = ea ∙ ap Draw room;
      number = omega (arith, number, ap (λ (z : ℕ). draws z h) room, draws-reverse r h);
    }
holds_step c r t h m true a eb ea e before =
    let old = before e in
    record { draw = last_further (λ (x : Moment). eqb x.caller c && is_draw x.act) h m (and_right (eqb m.caller c) (is_draw m.act) (ap is_draw ea)) old.draw; of_room = old.of_room; number = old.number }

pub holds_back : (c r t : ℕ) (h : List Moment) → last_draw c h ≡ Some (r, t)
    → Holds (reverse h) c r t
holds_back c r t [] e = absurd (cc)
holds_back c r t (m ∷ h) e =
    holds_step c r t h m (eqb m.caller c) m.act refl refl e (holds_back c r t h)

-- the number of draws at the caller's last load of the wait
wait_by-cond : (r : ℕ) (touch : Touch) (now old : ℕ)
    → wait_by r touch now old ≡ cond (loads_wait r touch) now old
wait_by-cond r (Load (Wait q) value) now old = refl
wait_by-cond r touch now old = refl

counted_step : (c r n : ℕ) (h : List Moment) (m : Moment) (b w : Bool) → eqb m.caller c ≡ b
    → loads_wait r m.event.touch ≡ w
    → n ≡ cond b (cond w (draws r h) (draws_at_load c r h)) (draws_at_load c r h)
    → (n ≡ draws_at_load c r h → Counted (reverse h) c r n) → Counted (reverse (m ∷ h)) c r n
counted_step c r n h m false w eb ew e before =
    let old = before e in
    record { load = last_further (λ (x : Moment). eqb x.caller c && loads_wait r x.event.touch) h m (and_left (eqb m.caller c) (loads_wait r m.event.touch) eb) old.load; number = old.number }
counted_step c r n h m true true eb ew e before = record {
  load =
      last_here (λ (x : Moment). eqb x.caller c && loads_wait r x.event.touch) h m
      (and_from (eqb m.caller c) (loads_wait r m.event.touch) eb ew);
  number = e ∙ draws-reverse r h;
}
counted_step c r n h m true false eb ew e before =
    let old = before e in
    record { load = last_further (λ (x : Moment). eqb x.caller c && loads_wait r x.event.touch) h m (and_right (eqb m.caller c) (loads_wait r m.event.touch) ew) old.load; number = old.number }

counted_back : (c r n : ℕ) (h : List Moment) → 0 < n → n ≡ draws_at_load c r h
    → Counted (reverse h) c r n
counted_back c r n [] pos e = absurd (omega (arith, pos, e))
counted_back c r n (m ∷ h) pos e =
    counted_step c r n h m (eqb m.caller c) (loads_wait r m.event.touch) refl refl
    (e
    ∙ ap (λ z. cond (eqb m.caller c) z (draws_at_load c r h))
    (wait_by-cond r m.event.touch (draws r h) (draws_at_load c r h))) (counted_back c r n h pos)

pub lawful_suffix : (s h : List Moment) → LawfulBack (s ++ h) → LawfulBack h
lawful_suffix [] h k = k
lawful_suffix (m ∷ s) h k = lawful_suffix s h k.2

not_second : (one : Option Item) (turn r from to : ℕ) (past : List Item)
    → Pairs one (Some (Opened turn r from to)) past → ⊥
not_second (Some (Opened turn' r' from' to')) turn r from to past p = p
not_second (Some (Left c)) turn r from to past p = p
not_second one turn r from to past p = p

onto-reverse : (one : Option Item) (t : List Item)
    → onto one (reverse t) ≡ reverse (t ++ option_to_list one)
onto-reverse None t = ap reverse (sym (append-nil t))
onto-reverse (Some i) t = sym (reverse-append t (i ∷ []))

last_contained : {A : Type 0} (o : Option A) (xs : List A) (x : A) → last_or o xs ≡ Some x
    → (o ≡ Some x) ⊎ Contains xs x
last_contained o [] x e = inl e
last_contained o (y ∷ xs) x e = elim (last_contained (Some y) xs x e) [
  | inl here ↦ inr (subst (Contains (y ∷ xs)) (let same : y ≡ x = cc in same) (Contains-append_left (y ∷ []) xs y (0, omega arith, refl)))
  | inr later ↦ inr (Contains-append_right (y ∷ []) xs x later)
]

module _ (h : List Moment) (k : LawfulBack h) where
  here : (item : Item) (g : Gain (reverse h) item) → LawfulBack (g.moment ∷ reverse g.before)
  here item g =
      lawful_suffix (reverse g.after) (g.moment ∷ reverse g.before)
      (subst LawfulBack (split_back_at h g.before g.moment g.after g.stands) k)

  counted : (turn room from to : ℕ) (g : Gain (reverse h) (Opened turn room from to))
      → Counted g.before g.moment.caller room to
  counted turn room from to g =
      let l = here (Opened turn room from to) g in
      elim (gained_cases g.moment.event.one g.moment.event.two g.one g.two (Opened turn room from to) g.gained) [
        | inl one ↦ (let a : Lawful g.moment.caller (reverse g.before) (Opened turn room from to) (trace (reverse g.before)) = subst (λ z. LawfulAt g.moment.caller (reverse g.before) z (trace (reverse g.before))) one.0 l.0 in
            subst (λ z. Counted z g.moment.caller room to) (reverse-reverse g.before) (counted_back g.moment.caller room to (reverse g.before) (omega (arith, a.2)) a.3))
        | inr two ↦ absurd (not_second g.moment.event.one turn room from to (trace (reverse g.before)) (subst (λ z. Pairs g.moment.event.one z (trace (reverse g.before))) two.0 l.3))
      ]

  all_is : all_opened (trace h) ≡ opened (trace_of (reverse h))
  all_is = all_opened-reverse (trace h) ∙ ap opened (sym (trace_of-reverse h))

  past_first : (item : Item) (g : Gain (reverse h) item)
      → trace_of (reverse h) ≡ past g ++ (item ∷ g.two ++ trace_of g.after)
  past_first item g =
      ap trace_of g.stands ∙ flat_map-append gains g.before (g.moment ∷ g.after)
      ∙ ap (λ z. trace_of g.before ++ (z ++ trace_of g.after)) g.gained
      ∙ ap (λ z. trace_of g.before ++ z) (append_assoc g.one (item ∷ g.two) (trace_of g.after))
      ∙ sym (append_assoc (trace_of g.before) g.one (item ∷ g.two ++ trace_of g.after))

  let_in : (c room : ℕ) (g : Gain (reverse h) (Entered c room)) (t : List Item)
      → t ≡ reverse (past g) → Lawful g.moment.caller (reverse g.before) (Entered c room) t
      → (g.moment.caller ≡ c) × (ticket : ℕ) × Holds g.before c room ticket × LetIn
      (opened (past g)) (opened (trace_of (reverse h))) room ticket
  let_in c room g t e a =
      let o = a.3 in
      let admits : Admits o room a.1 = record { of_room = a.5; above = a.6; up_to = a.7 } in
      let is_last : last_or None (opened (past g)) ≡ Some o =
      sym (last_opening-reverse t ∙ ap last_opened (ap reverse e ∙ reverse-reverse (past g)))
      ∙ a.4 in
      let inside : Contains (opened (trace_of (reverse h))) o = elim (last_contained None (opened (past g)) o is_last) [
        | inl none ↦ absurd (cc)
        | inr there ↦ subst (λ z. Contains z o) (sym (ap opened (past_first (Entered c room) g) ∙ filter_map-append opening_of (past g) (Entered c room ∷ g.two ++ trace_of g.after))) (Contains-append_left (opened (past g)) _ o there)
      ] in (
        sym a.0,
        a.1,
        subst (λ z. Holds g.before z room a.1) (sym a.0)
            (subst (λ z. Holds z g.moment.caller room a.1) (reverse-reverse g.before)
            (holds_back g.moment.caller room a.1 (reverse g.before) a.2)),
        record {
          opening = o;
          is_last = is_last;
          admits = admits;
          only =
              λ p there lets.
              one_admits (trace h) (opens_back h k) o p room a.1
              (subst (λ z. Contains z o) (sym all_is) inside)
              (subst (λ z. Contains z p) (sym all_is) there) admits lets;
        },
      )

  entered : (c room : ℕ) (g : Gain (reverse h) (Entered c room))
      → (g.moment.caller ≡ c) × (ticket : ℕ) × Holds g.before c room ticket × LetIn (opened (past g)) (opened (trace_of (reverse h))) room ticket
  entered c room g =
      let l = here (Entered c room) g in
      elim (gained_cases g.moment.event.one g.moment.event.two g.one g.two (Entered c room) g.gained) [
        | inl one ↦ let_in c room g (trace (reverse g.before)) (trace-reverse g.before ∙ ap reverse (sym (append-nil (trace_of g.before)) ∙ ap (λ z. trace_of g.before ++ z) (sym one.1)))
            (subst (λ z. LawfulAt g.moment.caller (reverse g.before) z (trace (reverse g.before)))
            one.0 l.0)
        | inr two ↦ let_in c room g (onto g.moment.event.one (trace (reverse g.before)))
            (ap (onto g.moment.event.one) (trace-reverse g.before)
            ∙ onto-reverse g.moment.event.one (trace_of g.before)
            ∙ ap (λ z. reverse (trace_of g.before ++ z)) (sym two.1))
            (subst
            (λ z.
            LawfulAt g.moment.caller (reverse g.before) z
            (onto g.moment.event.one (trace (reverse g.before)))) two.0 l.1)
      ]

pub admission_in_order : (h : List Moment) → LawfulBack h → IsAdmission (reverse h)
admission_in_order h k = record {
  turns =
      λ i o e. turns_back (trace h) (opens_back h k) i o (ap (λ z. slice_get z i) (all_is h k) ∙ e);
  goes_on =
      λ before after o e. goes_on_back (trace h) (opens_back h k) before after o (all_is h k ∙ e);
  counted = counted h k;
  entered = entered h k;
}
