-- The exit code runs once for each opening, directly after its last departure.
use Rattle.std.proofs.Common.{◌≡◌, ℕ, ◌+◌, ◌<◌, ◌≤◌, Bool, true, false, cond, List, [], ◌∷◌, ◌++◌, reverse, Option, Some, None, refl, sym, ap, ◌∙◌, subst, inl, inr, ◌⊎◌, arith, ◌&&◌, not}
use Rattle.std.specs.Prelude.{Contains, count_by}
use Rattle.std.specs.List.{last_or}
use Rattle.std.proofs.lemmas.List.{append_assoc, reverse-reverse}
use Rattle.std.proofs.lemmas.List.Elements.{Contains-append_right, filter_map-append}
use Rattle.std.proofs.lemmas.Bool.{cases_Bool}
use Rattle.room_core.specs.declared.items.Item.{Item}
use Rattle.room_core.specs.declared.items.Item.TheVariants.{Opened, Entered, Left, ExitBegun, ExitEnded}
use Rattle.room_core.specs.declared.items.Opening.{Opening}
use Rattle.room_core.specs.Runs.{Moment}
use Rattle.room_core.specs.Trace.{trace, onto, is_closing, is_exiting, last_opening, openings}
use Rattle.room_core.specs.Openings.{opening_of, opened}
use Rattle.room_core.specs.ExitOnce.{is_departure, is_begin, is_end, item_of, departures, EndsHere, Follow, EndsInLastLeft, IsOncePerOpening}
use Rattle.room_core.proofs.Backward.{lefts, ends_in_left, IsShut, Lawful, LawfulAt, LawfulBack, Pairs, StaysOpen}
use Rattle.room_core.proofs.Order.{reverse-cons, last_or-push, split_back, split_back_at, nil_parts, none_opened, count-cons, count-reverse}

-- what each item says of the items before it, and a last departure of the next item
abbrev OnceAt : Option Item → Item → List Item → Type 0
OnceAt next (Opened turn r from to) past = IsShut past
OnceAt next (Entered c r) past = Unit {0}
OnceAt next (Left c) past =
    (o : Opening) → last_opening past ≡ Some o → o.from + lefts past + 1 ≡ o.to
    → next ≡ Some (ExitBegun o.room)
OnceAt next (ExitBegun r) past =
    (o : Opening) × (last_opening past ≡ Some o) × (o.room ≡ r) × (is_closing past ≡ false) ×
    (o.from + lefts past ≡ o.to) × (ends_in_left past ≡ true)
OnceAt next (ExitEnded r) past =
    (o : Opening) × (last_opening past ≡ Some o) × (o.room ≡ r) × (is_closing past ≡ true) ×
    (is_exiting past ≡ true)

abbrev OnceBack : Option Item → List Item → Type 0
OnceBack next [] = Unit {0}
OnceBack next (item ∷ past) = OnceAt next item past × OnceBack (Some item) past

some_same : (o p : Opening) (last : Option Opening) → last ≡ Some o → last ≡ Some p → o ≡ p
some_same o p last a b = cc

-- whatever comes next
any_next : (next : Option Item) (i : Item) (past : List Item) → OnceAt None i past
    → OnceAt next i past
any_next next (Opened turn r from to) past k = k
any_next next (Entered c r) past k = k
any_next next (Left c) past k = λ o last full. absurd (let z = k o last full in cc)
any_next next (ExitBegun r) past k = k
any_next next (ExitEnded r) past k = k

once_next : (next : Option Item) (t : List Item) → OnceBack None t → OnceBack next t
once_next next [] k = tt
once_next next (i ∷ past) k = (any_next next i past k.0, k.1)

once_item : (c : ℕ) (h : List Moment) (i : Item) (past : List Item) → Lawful c h i past
    → StaysOpen (Some i) past → OnceAt None i past
once_item c h (Opened turn r from to) past a p = a.4
once_item c h (Entered d r) past a p = tt
once_item c h (Left d) past a p = λ o last full. absurd (p o last full)
once_item c h (ExitBegun r) past a p = a
once_item c h (ExitEnded r) past a p = a

once_event : (c : ℕ) (h : List Moment) (t : List Item) (one two : Option Item) → LawfulAt c h one t
    → LawfulAt c h two (onto one t) → Pairs one two t → OnceBack None t
    → OnceBack None (onto two (onto one t))
once_event c h t None None a b p k = k
once_event c h t (Some i) None a b p k = (once_item c h i t a p, once_next (Some i) t k)
once_event c h t (Some (Opened turn r from to)) (Some (Entered d q)) a b p k =
    (tt, (a.4, once_next (Some (Opened turn r from to)) t k))
once_event c h t (Some (Left d)) (Some (ExitBegun q)) a b p k = (
  b,
  (
    λ o last full.
        ap (λ (z : ℕ). Some (ExitBegun z))
        (sym b.2 ∙ ap (λ (z : Opening). z.room) (some_same b.0 o (last_opening t) b.1 last)),
    once_next (Some (Left d)) t k,
  ),
)
once_event c h t one two a b p k = absurd p

pub once_back : (h : List Moment) → LawfulBack h → OnceBack None (trace h)
once_back [] k = tt
once_back (m ∷ h) k =
    once_event m.caller h (trace h) m.event.one m.event.two k.0 k.1 k.3 (once_back h k.2)

once_at : (next : Option Item) (s : List Item) (i : Item) (past : List Item)
    → OnceBack next (s ++ i ∷ past) → OnceAt (last_or next s) i past
once_at next [] i past k = k.0
once_at next (x ∷ s) i past k = once_at (Some x) s i past k.1

once_suffix : (next : Option Item) (s t : List Item) → OnceBack next (s ++ t)
    → OnceBack (last_or next s) t
once_suffix next [] t k = k
once_suffix next (x ∷ s) t k = once_suffix (Some x) s t k.1

-- the item that comes next
first_back : (x : Item) (xs : List Item) → last_or None (reverse (x ∷ xs)) ≡ Some x
first_back x xs = ap (λ z. last_or None z) (reverse-cons x xs) ∙ last_or-push None (reverse xs) x

-- a count that is not 0 has a place
counted_at : (p : Item → Bool) (xs : List Item) → 0 < count_by p xs
    → (before : List Item) × (x : Item) × (after : List Item) × (xs ≡ before ++ x ∷ after) × (p x ≡ true)
counted_at p [] h = absurd (omega arith)
counted_at p (x ∷ xs) h = elim (cases_Bool (p x)) [
  | inl passes ↦ ([], x, xs, refl, passes)
  | inr fails ↦ (let k = counted_at p xs (omega (arith, count-cons p x xs, ap (λ (b : Bool). cond {A = ℕ} b 1 0) fails)) in (x ∷ k.0, k.1, k.2, ap (λ z. x ∷ z) k.3, k.4))
]

is_begin_at : (i : Item) → is_begin i ≡ true → (q : ℕ) × (i ≡ ExitBegun q)
is_begin_at (ExitBegun q) e = (q, refl)
is_begin_at i e = absurd (cc)

is_end_at : (i : Item) → is_end i ≡ true → (q : ℕ) × (i ≡ ExitEnded q)
is_end_at (ExitEnded q) e = (q, refl)
is_end_at i e = absurd (cc)

contains_at : (before after : List Item) (x : Item) → Contains (before ++ x ∷ after) x
contains_at before after x = Contains-append_right before (x ∷ after) x (0, omega arith, refl)

-- the next item, where it is no opening
next_is : (after rest : List Item) (x : Item) → EndsHere rest → opened (x ∷ []) ≡ []
    → last_or None (reverse (after ++ rest)) ≡ Some x → (later : List Item) × (after ≡ x ∷ later)
next_is (y ∷ after) rest x h none e = (
  after,
  let q : Some y ≡ Some x = sym (first_back y (after ++ rest)) ∙ e in ap (λ z. z ∷ after) (cc),
)
next_is [] [] x h none e = absurd (cc)
next_is [] (Opened turn r from to ∷ rest) x h none e =
    let q : Some (Opened turn r from to) ≡ Some x =
    sym (first_back (Opened turn r from to) rest) ∙ e in
    let same : Opened turn r from to ≡ x = cc in
    absurd
    (let z : opened (Opened turn r from to ∷ []) ≡ [] = ap (λ y. opened (y ∷ [])) same ∙ none in cc)
next_is [] (Entered c r ∷ rest) x h none e = absurd h
next_is [] (Left c ∷ rest) x h none e = absurd h
next_is [] (ExitBegun r ∷ rest) x h none e = absurd h
next_is [] (ExitEnded r ∷ rest) x h none e = absurd h

once_le : (b : Bool) → cond {A = ℕ} b 1 0 ≤ 1
once_le true = omega arith
once_le false = omega arith

abbrev once : Bool → ℕ
once b = cond b 1 0

module _ (o : Opening) (past : List Item) where
  -- the trace from this opening on, told from its end
  abbrev since : List Item → List Item
  since b = b ++ item_of o ∷ past

  last_since : (b : List Item) → opened b ≡ [] → last_opening (since b) ≡ Some o
  last_since [] e = refl
  last_since (Opened turn r from to ∷ b) e = absurd (cc)
  last_since (Entered c r ∷ b) e = last_since b e
  last_since (Left c ∷ b) e = last_since b e
  last_since (ExitBegun r ∷ b) e = last_since b e
  last_since (ExitEnded r ∷ b) e = last_since b e

  lefts_since : (b : List Item) → opened b ≡ [] → lefts (since b) ≡ departures b
  lefts_since [] e = refl
  lefts_since (Opened turn r from to ∷ b) e = absurd (cc)
  lefts_since (Entered c r ∷ b) e =
      lefts_since b e ∙ sym (count-cons is_departure (Entered c r) b ∙ omega arith)
  lefts_since (Left c ∷ b) e = omega (arith, lefts_since b e, count-cons is_departure (Left c) b)
  lefts_since (ExitBegun r ∷ b) e =
      lefts_since b e ∙ sym (count-cons is_departure (ExitBegun r) b ∙ omega arith)
  lefts_since (ExitEnded r ∷ b) e =
      lefts_since b e ∙ sym (count-cons is_departure (ExitEnded r) b ∙ omega arith)

  begins_since : (next : Option Item) (b : List Item) → opened b ≡ [] → OnceBack next (since b)
      → count_by is_begin b ≡ once (is_closing (since b))
  begins_since next [] e k = refl
  begins_since next (Opened turn r from to ∷ b) e k = absurd (cc)
  begins_since next (Entered c r ∷ b) e k =
      omega (arith, begins_since (Some (Entered c r)) b e k.1, count-cons is_begin (Entered c r) b)
  begins_since next (Left c ∷ b) e k =
      omega (arith, begins_since (Some (Left c)) b e k.1, count-cons is_begin (Left c) b)
  begins_since next (ExitBegun r ∷ b) e k =
      omega (
        arith,
        begins_since (Some (ExitBegun r)) b e k.1,
        count-cons is_begin (ExitBegun r) b,
        ap once k.0.3,
      )
  begins_since next (ExitEnded r ∷ b) e k =
      omega (arith, begins_since (Some (ExitEnded r)) b e k.1, count-cons is_begin (ExitEnded r) b)

  ends_since : (next : Option Item) (b : List Item) → opened b ≡ [] → OnceBack next (since b)
      → count_by is_end b ≡ once (is_closing (since b) && not (is_exiting (since b)))
  ends_since next [] e k = refl
  ends_since next (Opened turn r from to ∷ b) e k = absurd (cc)
  ends_since next (Entered c r ∷ b) e k =
      omega (arith, ends_since (Some (Entered c r)) b e k.1, count-cons is_end (Entered c r) b)
  ends_since next (Left c ∷ b) e k =
      omega (arith, ends_since (Some (Left c)) b e k.1, count-cons is_end (Left c) b)
  ends_since next (ExitBegun r ∷ b) e k =
      omega (
        arith,
        ends_since (Some (ExitBegun r)) b e k.1,
        count-cons is_end (ExitBegun r) b,
        ap (λ (z : Bool). once (z && not (is_exiting (since b)))) k.0.3,
      )
  ends_since next (ExitEnded r ∷ b) e k =
      omega (
        arith,
        ends_since (Some (ExitEnded r)) b e k.1,
        count-cons is_end (ExitEnded r) b,
        ap (λ (z : Bool). once (z && not (is_exiting (since b)))) k.0.3,
        ap (λ (z : Bool). once (not z)) k.0.4,
        ap (λ (z : Bool). once (z && true)) k.0.3,
      )

  last_left : (b : List Item) → ends_in_left (since b) ≡ true
      → (c : ℕ) × (before : List Item) × (b ≡ Left c ∷ before)
  last_left [] e = absurd (cc)
  last_left (Left c ∷ b) e = (c, b, refl)
  last_left (i ∷ b) e = absurd (cc)

  -- exit code that began did so at one place
  begun_since : (b : List Item) → opened b ≡ [] → is_closing (since b) ≡ true
      → (q : ℕ) × (later : List Item) × (before : List Item) × (b ≡ later ++ ExitBegun q ∷ before)
  begun_since [] e h = absurd (cc)
  begun_since (Opened turn r from to ∷ b) e h = absurd (cc)
  begun_since (Entered c r ∷ b) e h =
      let k = begun_since b e h in (k.0, Entered c r ∷ k.1, k.2, ap (λ z. Entered c r ∷ z) k.3)
  begun_since (Left c ∷ b) e h =
      let k = begun_since b e h in (k.0, Left c ∷ k.1, k.2, ap (λ z. Left c ∷ z) k.3)
  begun_since (ExitBegun r ∷ b) e h = (r, [], b, refl)
  begun_since (ExitEnded r ∷ b) e h =
      let k = begun_since b e h in (k.0, ExitEnded r ∷ k.1, k.2, ap (λ z. ExitEnded r ∷ z) k.3)

  open_count : (b : List Item) → openings (since b) ≡ 0 → ⊥
  open_count [] e = omega arith
  open_count (Opened turn r from to ∷ b) e = omega arith
  open_count (Entered c r ∷ b) e = open_count b e
  open_count (Left c ∷ b) e = open_count b e
  open_count (ExitBegun r ∷ b) e = open_count b e
  open_count (ExitEnded r ∷ b) e = open_count b e

module _ (t : List Item) (k : OnceBack None t) (o : Opening) (items rest : List Item) (f : Follow (reverse t) o items rest) where
  abbrev here : List Item → List Item
  here before = since o (reverse f.past) (reverse before)

  here_is : (before : List Item) → reverse (f.past ++ item_of o ∷ before) ≡ here before
  here_is before =
      split_back_at (reverse (f.past ++ item_of o ∷ before)) f.past (item_of o) before
      (reverse-reverse (f.past ++ item_of o ∷ before))

  -- what an item of the opening says of those before it
  place : (before after : List Item) (x : Item) → items ≡ before ++ x ∷ after
      → OnceAt (last_or None (reverse (after ++ rest))) x (here before)
  place before after x e =
      let stands : reverse t ≡ (f.past ++ item_of o ∷ before) ++ x ∷ (after ++ rest) =
      f.stands ∙ ap (λ z. (f.past ++ item_of o ∷ z) ++ rest) e
      ∙ ap (λ z. z ++ rest) (sym (append_assoc f.past (item_of o ∷ before) (x ∷ after)))
      ∙ append_assoc (f.past ++ item_of o ∷ before) (x ∷ after) rest in
      let back : t ≡ reverse (after ++ rest) ++ x ∷ here before =
      split_back_at t (f.past ++ item_of o ∷ before) x (after ++ rest) stands
      ∙ ap (λ z. reverse (after ++ rest) ++ x ∷ z) (here_is before) in
      once_at None (reverse (after ++ rest)) x (here before) (subst (OnceBack None) back k)

  none_before : (before after : List Item) (x : Item) → items ≡ before ++ x ∷ after
      → opened (reverse before) ≡ []
  none_before before after x e =
      none_opened before
      (nil_parts (opened before) (opened (x ∷ after)) (sym (filter_map-append opening_of before (x ∷ after)) ∙ ap opened (sym e) ∙ f.one)).0

  none : opened (reverse items) ≡ []
  none = none_opened items f.one

  all : OnceBack (last_or None (reverse rest)) (here items)
  all =
      once_suffix None (reverse rest) (here items)
      (subst (OnceBack None)
      (split_back t (f.past ++ item_of o ∷ items) rest f.stands
      ∙ ap (λ z. reverse rest ++ z) (here_is items)) k)

  begins : count_by is_begin items ≡ once (is_closing (here items))
  begins =
      sym (count-reverse is_begin items)
      ∙ begins_since o (reverse f.past) (last_or None (reverse rest)) (reverse items) none all

  ends : count_by is_end items ≡ once (is_closing (here items) && not (is_exiting (here items)))
  ends =
      sym (count-reverse is_end items)
      ∙ ends_since o (reverse f.past) (last_or None (reverse rest)) (reverse items) none all

  begun : (before after : List Item) (q : ℕ) → items ≡ before ++ ExitBegun q ∷ after
      → (q ≡ o.room) × EndsInLastLeft o before
  begun before after q e =
      let p = place before after (ExitBegun q) e in
      let quiet = none_before before after (ExitBegun q) e in
      let same : p.0 ≡ o =
      some_same p.0 o (last_opening (here before)) p.1
      (last_since o (reverse f.past) (reverse before) quiet) in
      let from : p.0.from ≡ o.from = ap (λ (z : Opening). z.from) same in
      let to : p.0.to ≡ o.to = ap (λ (z : Opening). z.to) same in
      let left = last_left o (reverse f.past) (reverse before) p.5 in (
        sym p.2 ∙ ap (λ (z : Opening). z.room) same,
        (
          reverse left.1,
          left.0,
          sym (reverse-reverse before) ∙ ap reverse left.2 ∙ reverse-cons (Left left.0) left.1,
          omega (
            arith,
            p.4,
            from,
            to,
            lefts_since o (reverse f.past) (reverse before) quiet,
            count-reverse is_departure before,
          ),
        ),
      )

  last : (before after : List Item) (c : ℕ) → items ≡ before ++ Left c ∷ after
      → o.from + departures before + 1 ≡ o.to
      → (later : List Item) × (after ≡ ExitBegun o.room ∷ later)
  last before after c e full =
      let quiet = none_before before after (Left c) e in
      next_is after rest (ExitBegun o.room) f.whole refl
      (place before after (Left c) e o (last_since o (reverse f.past) (reverse before) quiet)
      (omega (arith, full, lefts_since o (reverse f.past) (reverse before) quiet, count-reverse is_departure before)))

  ended : (before after : List Item) (q : ℕ) → items ≡ before ++ ExitEnded q ∷ after
      → (q ≡ o.room) × Contains before (ExitBegun o.room)
  ended before after q e =
      let p = place before after (ExitEnded q) e in
      let quiet = none_before before after (ExitEnded q) e in
      let same : p.0 ≡ o =
      some_same p.0 o (last_opening (here before)) p.1
      (last_since o (reverse f.past) (reverse before) quiet) in
      let b = begun_since o (reverse f.past) (reverse before) quiet p.3 in
      let there : before ≡ reverse b.2 ++ ExitBegun b.0 ∷ reverse b.1 =
      split_back_at before b.1 (ExitBegun b.0) b.2 b.3 in
      let first = begun (reverse b.2) (reverse b.1 ++ ExitEnded q ∷ after) b.0 (e ∙ ap (λ z. z ++ ExitEnded q ∷ after) there ∙ append_assoc (reverse b.2) (ExitBegun b.0 ∷ reverse b.1) (ExitEnded q ∷ after)) in (
        sym p.2 ∙ ap (λ (z : Opening). z.room) same,
        subst (λ z. Contains z (ExitBegun o.room)) (sym there)
            (subst (λ (r : ℕ). Contains (reverse b.2 ++ ExitBegun b.0 ∷ reverse b.1) (ExitBegun r))
            first.0 (contains_at (reverse b.2) (reverse b.1) (ExitBegun b.0))),
      )

  begin_contained : 0 < count_by is_begin items → Contains items (ExitBegun o.room)
  begin_contained h =
      let k = counted_at is_begin items h in let x = is_begin_at k.1 k.4 in
      let split : items ≡ k.0 ++ ExitBegun x.0 ∷ k.2 = k.3 ∙ ap (λ z. k.0 ++ z ∷ k.2) x.1 in
      subst (λ z. Contains z (ExitBegun o.room)) (sym split)
      (subst (λ (r : ℕ). Contains (k.0 ++ ExitBegun x.0 ∷ k.2) (ExitBegun r))
      (begun k.0 k.2 x.0 split).0 (contains_at k.0 k.2 (ExitBegun x.0)))

  end_contained : 0 < count_by is_end items → Contains items (ExitEnded o.room)
  end_contained h =
      let k = counted_at is_end items h in let x = is_end_at k.1 k.4 in
      let split : items ≡ k.0 ++ ExitEnded x.0 ∷ k.2 = k.3 ∙ ap (λ z. k.0 ++ z ∷ k.2) x.1 in
      subst (λ z. Contains z (ExitEnded o.room)) (sym split)
      (subst (λ (r : ℕ). Contains (k.0 ++ ExitEnded x.0 ∷ k.2) (ExitEnded r))
      (ended k.0 k.2 x.0 split).0 (contains_at k.0 k.2 (ExitEnded x.0)))

  before_next : (next : List Item) → next ≡ rest → EndsHere next
      → (rest ≡ []) ⊎ (Contains items (ExitBegun o.room) × Contains items (ExitEnded o.room))
  before_next [] e h = inl (sym e)
  before_next (Opened turn r from to ∷ next) e h =
      let back : t ≡ reverse next ++ Opened turn r from to ∷ here items =
      split_back_at t (f.past ++ item_of o ∷ items) (Opened turn r from to) next
      (f.stands ∙ ap (λ z. (f.past ++ item_of o ∷ items) ++ z) (sym e))
      ∙ ap (λ z. reverse next ++ Opened turn r from to ∷ z) (here_is items) in
      elim (once_at None (reverse next) (Opened turn r from to) (here items) (subst (OnceBack None) back k)) [
        | inl z ↦ absurd (open_count o (reverse f.past) (reverse items) z)
        | inr s ↦ inr (begin_contained (omega (arith, begins, ap once s.0)), end_contained (omega (arith, ends, ap (λ (b : Bool). once (b && not (is_exiting (here items)))) s.0, ap (λ (b : Bool). once (not b)) s.1)))
      ]
  before_next _ e h = absurd h

pub once_in_order : (t : List Item) → OnceBack None t → IsOncePerOpening (reverse t)
once_in_order t k = record {
  each = λ o items rest f. record {
    begins_once =
        omega
        (arith, begins t k o items rest f, once_le (is_closing (here t k o items rest f items)));
    ends_once =
        omega (
          arith,
          ends t k o items rest f,
          once_le
              (is_closing (here t k o items rest f items) && not
              (is_exiting (here t k o items rest f items))),
        );
    begun = begun t k o items rest f;
    last = last t k o items rest f;
    ended = ended t k o items rest f;
    before_next = before_next t k o items rest f rest refl f.whole;
  };
}
