-- A run in its order, and told from its latest moment back.
use Rattle.std.proofs.Common.{◌≡◌, ℕ, ◌+◌, Bool, true, false, cond, List, [], ◌∷◌, ◌++◌, reverse, option_to_list, Option, Some, None, refl, sym, ap, ◌∙◌, subst, inl, inr, ◌⊎◌, arith, eqb}
use Rattle.std.specs.Prelude.{filter, count_by, Contains}
use Rattle.std.specs.List.{last_or}
use Rattle.std.specs.Option.{option_map_or}
use Rattle.std.proofs.lemmas.List.{append-nil, append_assoc, reverse-append, reverse-reverse}
use Rattle.std.proofs.lemmas.List.Sums.{sum_by-append, sum_by-cons}
use Rattle.std.proofs.lemmas.List.Elements.{filter_map-append, filter-append, Contains-push, Contains-append_left}
use Rattle.std.proofs.lemmas.Grind.{flat_map-append}
use Rattle.std.proofs.lemmas.Bool.{cond-true, cond-false, cond_both, cases_Bool, eqb-true}
use Rattle.room_core.specs.declared.items.Item.{Item}
use Rattle.room_core.specs.declared.items.Item.TheVariants.{Opened, Entered, Left, ExitBegun, ExitEnded}
use Rattle.room_core.specs.declared.items.Opening.{Opening}
use Rattle.room_core.specs.Runs.{Moment}
use Rattle.room_core.specs.Trace.{trace, onto, occupant, is_closing, is_exiting, last_opening, all_opened}
use Rattle.room_core.specs.Order.{gains, trace_of}
use Rattle.room_core.specs.Occupants.{is_move_of, Occupies}
use Rattle.room_core.specs.Openings.{opening_of, opened, last_opened, granted}
use Rattle.room_core.proofs.Backward.{last_to}

-- lists, last item first
pub reverse-cons : {A : Type 0} (x : A) (xs : List A) → reverse (x ∷ xs) ≡ reverse xs ++ x ∷ []
reverse-cons x xs = reverse-append (x ∷ []) xs

pub last_or-push : {A : Type 0} (o : Option A) (xs : List A) (x : A)
    → last_or o (xs ++ x ∷ []) ≡ Some x
last_or-push o [] x = refl
last_or-push o (y ∷ xs) x = last_or-push (Some y) xs x

pub split_back : {A : Type 0} (h xs ys : List A) → reverse h ≡ xs ++ ys
    → h ≡ reverse ys ++ reverse xs
split_back h xs ys e = sym (reverse-reverse h) ∙ ap reverse e ∙ reverse-append xs ys

pub split_back_at : {A : Type 0} (h xs : List A) (x : A) (ys : List A) → reverse h ≡ xs ++ x ∷ ys
    → h ≡ reverse ys ++ x ∷ reverse xs
split_back_at h xs x ys e =
    split_back h xs (x ∷ ys) e ∙ ap (λ z. z ++ reverse xs) (reverse-cons x ys)
    ∙ append_assoc (reverse ys) (x ∷ []) (reverse xs)

-- counts, last item first
pub count-cons : {X : Type 0} (p : X → Bool) (x : X) (xs : List X)
    → count_by p (x ∷ xs) ≡ cond (p x) 1 0 + count_by p xs
count-cons p x xs = sum_by-cons (λ y. cond (p y) 1 0) x xs

pub count-push : {X : Type 0} (p : X → Bool) (xs : List X) (x : X)
    → count_by p (xs ++ x ∷ []) ≡ count_by p xs + cond (p x) 1 0
count-push p xs x =
    sum_by-append (λ y. cond (p y) 1 0) xs (x ∷ []) ∙ omega (arith, count-cons p x [])

pub count-reverse : {X : Type 0} (p : X → Bool) (xs : List X)
    → count_by p (reverse xs) ≡ count_by p xs
count-reverse p [] = refl
count-reverse p (x ∷ xs) =
    ap (count_by p) (reverse-cons x xs) ∙ count-push p (reverse xs) x
    ∙ omega (arith, count-cons p x xs, count-reverse p xs)

pub nil_parts : {A : Type 0} (xs ys : List A) → xs ++ ys ≡ [] → (xs ≡ []) × (ys ≡ [])
nil_parts [] ys e = (refl, e)
nil_parts (x ∷ xs) ys e = absurd (cc)

-- the items of the moments, in order
pub traced : (items : List Item) (t : List Item) (one two : Option Item) → items ≡ reverse t
    → (items ++ option_to_list one) ++ option_to_list two ≡ reverse (onto two (onto one t))
traced items t None None e = append-nil (items ++ []) ∙ append-nil items ∙ e
traced items t (Some a) None e =
    append-nil (items ++ a ∷ []) ∙ ap (λ xs. xs ++ a ∷ []) e ∙ sym (reverse-append (a ∷ []) t)
traced items t None (Some b) e =
    ap (λ xs. xs ++ b ∷ []) (append-nil items ∙ e) ∙ sym (reverse-append (b ∷ []) t)
traced items t (Some a) (Some b) e =
    ap (λ xs. (xs ++ a ∷ []) ++ b ∷ []) e
    ∙ ap (λ xs. xs ++ b ∷ []) (sym (reverse-append (a ∷ []) t))
    ∙ sym (reverse-append (b ∷ []) (a ∷ t))

pub trace_of-push : (ms : List Moment) (m : Moment)
    → trace_of (ms ++ m ∷ []) ≡ trace_of ms ++ gains m
trace_of-push ms m =
    flat_map-append gains ms (m ∷ []) ∙ ap (λ z. trace_of ms ++ z) (append-nil (gains m))

pub trace_of-reverse : (h : List Moment) → trace_of (reverse h) ≡ reverse (trace h)
trace_of-reverse [] = refl
trace_of-reverse (m ∷ h) =
    ap trace_of (reverse-cons m h) ∙ trace_of-push (reverse h) m
    ∙ sym
    (append_assoc (trace_of (reverse h)) (option_to_list m.event.one)
    (option_to_list m.event.two))
    ∙ traced (trace_of (reverse h)) (trace h) m.event.one m.event.two (trace_of-reverse h)

pub trace-reverse : (ms : List Moment) → trace (reverse ms) ≡ reverse (trace_of ms)
trace-reverse ms =
    sym (reverse-reverse (trace (reverse ms)))
    ∙ ap reverse (sym (trace_of-reverse (reverse ms)) ∙ ap trace_of (reverse-reverse ms))

-- the two items of an event
pub gained_cases : (one two : Option Item) (before after : List Item) (i : Item)
    → option_to_list one ++ option_to_list two ≡ before ++ i ∷ after
    → ((one ≡ Some i) × (before ≡ [])) ⊎ ((two ≡ Some i) × (before ≡ option_to_list one))
gained_cases None None [] after i e = absurd (cc)
gained_cases None None (x ∷ before) after i e = absurd (cc)
gained_cases None (Some b) [] after i e = inr (cc, refl)
gained_cases None (Some b) (x ∷ before) after i e =
    absurd
    (let n : [] ≡ before ++ i ∷ after = cc in
    let z = nil_parts before (i ∷ after) (sym n) in cc z.1)
gained_cases (Some a) two [] after i e = inl (cc, refl)
gained_cases (Some a) None (x ∷ before) after i e =
    absurd
    (let n : [] ≡ before ++ i ∷ after = cc in
    let z = nil_parts before (i ∷ after) (sym n) in cc z.1)
gained_cases (Some a) (Some b) (x ∷ []) after i e = inr (cc, cc)
gained_cases (Some a) (Some b) (x ∷ y ∷ before) after i e =
    absurd
    (let n : [] ≡ before ++ i ∷ after = cc in
    let z = nil_parts before (i ∷ after) (sym n) in cc z.1)

-- the openings
pub opened-back : (i : Item) (t : List Item)
    → opened (reverse (i ∷ t)) ≡ opened (reverse t) ++ opened (i ∷ [])
opened-back i t = ap opened (reverse-cons i t) ∙ filter_map-append opening_of (reverse t) (i ∷ [])

pub all_opened-reverse : (t : List Item) → all_opened t ≡ opened (reverse t)
all_opened-reverse [] = refl
all_opened-reverse (Opened turn r from to ∷ t) =
    ap (λ z. z ++ record { turn = turn; room = r; from = from; to = to } ∷ [])
    (all_opened-reverse t)
    ∙ sym (opened-back (Opened turn r from to) t)
all_opened-reverse (Entered c r ∷ t) =
    all_opened-reverse t ∙ sym (opened-back (Entered c r) t ∙ append-nil (opened (reverse t)))
all_opened-reverse (Left c ∷ t) =
    all_opened-reverse t ∙ sym (opened-back (Left c) t ∙ append-nil (opened (reverse t)))
all_opened-reverse (ExitBegun r ∷ t) =
    all_opened-reverse t ∙ sym (opened-back (ExitBegun r) t ∙ append-nil (opened (reverse t)))
all_opened-reverse (ExitEnded r ∷ t) =
    all_opened-reverse t ∙ sym (opened-back (ExitEnded r) t ∙ append-nil (opened (reverse t)))

last_all : (t : List Item) → last_opening t ≡ last_or None (all_opened t)
last_all [] = refl
last_all (Opened turn r from to ∷ t) =
    sym (last_or-push None (all_opened t) (record { turn = turn; room = r; from = from; to = to }))
last_all (Entered c r ∷ t) = last_all t
last_all (Left c ∷ t) = last_all t
last_all (ExitBegun r ∷ t) = last_all t
last_all (ExitEnded r ∷ t) = last_all t

pub last_opening-reverse : (t : List Item) → last_opening t ≡ last_opened (reverse t)
last_opening-reverse t = last_all t ∙ ap (λ z. last_or None z) (all_opened-reverse t)

pub granted-push : (os : List Opening) (o : Opening) (r : ℕ)
    → granted (os ++ o ∷ []) r ≡ cond (eqb o.room r) o.to (granted os r)
granted-push os o r =
    ap (λ z. option_map_or (λ (p : Opening). p.to) (last_or None z) 0)
    (filter-append (λ (p : Opening). eqb p.room r) os (o ∷ []))
    ∙ cond_both (eqb o.room r) (o ∷ []) []
    (λ z.
    option_map_or (λ (p : Opening). p.to)
    (last_or None (filter (λ (p : Opening). eqb p.room r) os ++ z)) 0 ≡ cond (eqb o.room r)
    o.to (granted os r))
    (λ y.
    ap (λ z. option_map_or (λ (p : Opening). p.to) z 0)
    (last_or-push None (filter (λ (p : Opening). eqb p.room r) os) o)
    ∙ sym (cond-true (eqb o.room r) o.to (granted os r) y))
    (λ n.
    ap (λ z. option_map_or (λ (p : Opening). p.to) (last_or None z) 0)
    (append-nil (filter (λ (p : Opening). eqb p.room r) os))
    ∙ sym (cond-false (eqb o.room r) o.to (granted os r) n))

pub last_to-granted : (r : ℕ) (t : List Item) → last_to r t ≡ granted (all_opened t) r
last_to-granted r [] = refl
last_to-granted r (Opened turn q from to ∷ t) =
    ap (λ z. cond (eqb q r) to z) (last_to-granted r t)
    ∙ sym (granted-push (all_opened t) (record { turn = turn; room = q; from = from; to = to }) r)
last_to-granted r (Entered c q ∷ t) = last_to-granted r t
last_to-granted r (Left c ∷ t) = last_to-granted r t
last_to-granted r (ExitBegun q ∷ t) = last_to-granted r t
last_to-granted r (ExitEnded q ∷ t) = last_to-granted r t

-- who is inside
abbrev last_move : ℕ → List Item → Option Item
last_move c t = last_or None (filter (is_move_of c) (reverse t))

last_move-cons : (c : ℕ) (i : Item) (t : List Item)
    → last_move c (i ∷ t) ≡ cond (is_move_of c i) (Some i) (last_move c t)
last_move-cons c i t =
    ap (λ z. last_or None z)
    (ap (filter (is_move_of c)) (reverse-cons i t)
    ∙ filter-append (is_move_of c) (reverse t) (i ∷ []))
    ∙ cond_both (is_move_of c i) (i ∷ []) []
    (λ z.
    last_or None (filter (is_move_of c) (reverse t) ++ z) ≡ cond (is_move_of c i) (Some i)
    (last_move c t))
    (λ y.
    last_or-push None (filter (is_move_of c) (reverse t)) i
    ∙ sym (cond-true (is_move_of c i) (Some i) (last_move c t) y))
    (λ n.
    ap (λ z. last_or None z) (append-nil (filter (is_move_of c) (reverse t)))
    ∙ sym (cond-false (is_move_of c i) (Some i) (last_move c t) n))

-- the caller's last move as the room that it is in
abbrev room_by : Option Item → Option ℕ
room_by (Some (Entered c r)) = Some r
room_by _ = None

room_by-cond : (b : Bool) (i : Item) (o : Option Item)
    → room_by (cond b (Some i) o) ≡ cond b (room_by (Some i)) (room_by o)
room_by-cond true i o = refl
room_by-cond false i o = refl

occupant-last : (c : ℕ) (t : List Item) → occupant c t ≡ room_by (last_move c t)
occupant-last c [] = refl
occupant-last c (Entered d r ∷ t) =
    ap (λ z. cond (eqb d c) (Some r) z) (occupant-last c t)
    ∙ sym
    (ap room_by (last_move-cons c (Entered d r) t)
    ∙ room_by-cond (eqb d c) (Entered d r) (last_move c t))
occupant-last c (Left d ∷ t) =
    ap (λ z. cond (eqb d c) None z) (occupant-last c t)
    ∙ sym
    (ap room_by (last_move-cons c (Left d) t) ∙ room_by-cond (eqb d c) (Left d) (last_move c t))
occupant-last c (Opened turn r from to ∷ t) =
    occupant-last c t ∙ sym (ap room_by (last_move-cons c (Opened turn r from to) t))
occupant-last c (ExitBegun r ∷ t) =
    occupant-last c t ∙ sym (ap room_by (last_move-cons c (ExitBegun r) t))
occupant-last c (ExitEnded r ∷ t) =
    occupant-last c t ∙ sym (ap room_by (last_move-cons c (ExitEnded r) t))

pub occupies_back : (c r : ℕ) (past : List Item) → Occupies past c r
    → occupant c (reverse past) ≡ Some r
occupies_back c r past o =
    occupant-last c (reverse past)
    ∙ ap room_by (ap (λ z. last_or None (filter (is_move_of c) z)) (reverse-reverse past) ∙ o)

occupies_forth : (c r : ℕ) (t : List Item) → occupant c t ≡ Some r → Occupies (reverse t) c r
occupies_forth c r [] e = absurd (cc)
occupies_forth c r (Entered d q ∷ t) e = last_move-cons c (Entered d q) t ∙ elim (cases_Bool (eqb d c)) [
  | inl own ↦ (let room : q ≡ r = (let z : Some q ≡ Some r = sym (cond-true (eqb d c) (Some q) (occupant c t) own) ∙ e in cc) in
      cond-true (eqb d c) (Some (Entered d q)) (last_move c t) own ∙ ap (λ z. Some (Entered z q)) (eqb-true d c own) ∙ ap (λ z. Some (Entered c z)) room)
  | inr other ↦ cond-false (eqb d c) (Some (Entered d q)) (last_move c t) other ∙ occupies_forth c r t (sym (cond-false (eqb d c) (Some q) (occupant c t) other) ∙ e)
]
occupies_forth c r (Left d ∷ t) e = last_move-cons c (Left d) t ∙ elim (cases_Bool (eqb d c)) [
  | inl own ↦ absurd (let z : None ≡ Some r = sym (cond-true (eqb d c) None (occupant c t) own) ∙ e in cc)
  | inr other ↦ cond-false (eqb d c) (Some (Left d)) (last_move c t) other ∙ occupies_forth c r t (sym (cond-false (eqb d c) None (occupant c t) other) ∙ e)
]
occupies_forth c r (Opened turn q from to ∷ t) e =
    last_move-cons c (Opened turn q from to) t ∙ occupies_forth c r t e
occupies_forth c r (ExitBegun q ∷ t) e = last_move-cons c (ExitBegun q) t ∙ occupies_forth c r t e
occupies_forth c r (ExitEnded q ∷ t) e = last_move-cons c (ExitEnded q) t ∙ occupies_forth c r t e

-- the same both ways
pub occupies-reverse : (c r : ℕ) (t : List Item)
    → (occupant c t ≡ Some r → Occupies (reverse t) c r) × (Occupies (reverse t) c r → occupant c t ≡ Some r)
occupies-reverse c r t = (
  occupies_forth c r t,
  λ o. ap (occupant c) (sym (reverse-reverse t)) ∙ occupies_back c r (reverse t) o,
)

pub none_opened : (xs : List Item) → opened xs ≡ [] → opened (reverse xs) ≡ []
none_opened [] e = refl
none_opened (Opened turn r from to ∷ xs) e = absurd (cc)
none_opened (Entered c r ∷ xs) e =
    opened-back (Entered c r) xs ∙ append-nil (opened (reverse xs)) ∙ none_opened xs e
none_opened (Left c ∷ xs) e =
    opened-back (Left c) xs ∙ append-nil (opened (reverse xs)) ∙ none_opened xs e
none_opened (ExitBegun r ∷ xs) e =
    opened-back (ExitBegun r) xs ∙ append-nil (opened (reverse xs)) ∙ none_opened xs e
none_opened (ExitEnded r ∷ xs) e =
    opened-back (ExitEnded r) xs ∙ append-nil (opened (reverse xs)) ∙ none_opened xs e

-- exit code that began and has not ended, with no opening since
pub closing_since : (s t : List Item) (q : ℕ) → opened s ≡ []
    → is_closing (s ++ ExitBegun q ∷ t) ≡ true
closing_since [] t q e = refl
closing_since (Opened turn r from to ∷ s) t q e = absurd (cc)
closing_since (Entered c r ∷ s) t q e = closing_since s t q e
closing_since (Left c ∷ s) t q e = closing_since s t q e
closing_since (ExitBegun r ∷ s) t q e = refl
closing_since (ExitEnded r ∷ s) t q e = closing_since s t q e

pub more_contained : (i : Item) (s : List Item) (x : Item) → Contains (reverse s) x
    → Contains (reverse (i ∷ s)) x
more_contained i s x h =
    subst (λ z. Contains z x) (sym (reverse-cons i s))
    (Contains-append_left (reverse s) (i ∷ []) x h)

pub ended_since : (s t : List Item) (q : ℕ) → is_exiting (s ++ ExitBegun q ∷ t) ≡ false
    → (p : ℕ) × Contains (reverse s) (ExitEnded p)
ended_since [] t q e = absurd (cc)
ended_since (Opened turn r from to ∷ s) t q e =
    let k = ended_since s t q e in
    (k.0, more_contained (Opened turn r from to) s (ExitEnded k.0) k.1)
ended_since (Entered c r ∷ s) t q e =
    let k = ended_since s t q e in (k.0, more_contained (Entered c r) s (ExitEnded k.0) k.1)
ended_since (Left c ∷ s) t q e =
    let k = ended_since s t q e in (k.0, more_contained (Left c) s (ExitEnded k.0) k.1)
ended_since (ExitBegun r ∷ s) t q e = absurd (cc)
ended_since (ExitEnded r ∷ s) t q e = (
  r,
  subst (λ z. Contains z (ExitEnded r)) (sym (reverse-cons (ExitEnded r) s))
      (Contains-push (reverse s) (ExitEnded r)),
)
