-- What a caller's own calls tell, as the history that it has seen goes on.
use Rattle.std.specs.List.{AllByRecursion}
use mathlib.Core.List.{reverse_aux}
use Rattle.std.proofs.Common.{◌≡◌, ◌≢◌, ℕ, ◌<◌, ◌≤◌, inl, inr, cond, List, [], ◌∷◌, ◌++◌, length, reverse, eqb, eq-eqb, refl, sym, ap, ◌∙◌, arith}
use Rattle.std.proofs.lemmas.Bool.{cases_eq, ne_eqb}
use Rattle.std.proofs.lemmas.List.{append-nil, append_assoc, reverse-append}
use Rattle.std.proofs.lemmas.List.Elements.{filter-append, All-from_recursion, recursion_from_All}
use Rattle.bay_core.specs.declared.calls.Entry.{Entry}
use Rattle.bay_core.specs.declared.calls.Noted.{Noted}
use Rattle.bay_core.specs.Noted.{entry_in, after, entries}
use Rattle.bay_core.specs.History.{own, GoesOn}
use Rattle.bay_core.proofs.OwnCalls.{own_same, own_other}
use Rattle.bay_core.specs.Told.{of_caller, told, AreOwn, Gained, AreOwnCalls}

of_same : (c : ℕ) (e : Entry) → e.who ≡ c → of_caller c (e ∷ []) ≡ e ∷ []
of_same c e is = ap (λ b. cond b (e ∷ []) []) (eq-eqb e.who c is)

of_other : (c : ℕ) (e : Entry) → e.who ≢ c → of_caller c (e ∷ []) ≡ []
of_other c e not = ap (λ b. cond b (e ∷ []) []) (ne_eqb e.who c not)

-- one call more
pub told_step : (c : ℕ) (n : Noted) (h : List Noted)
    → told c (n ∷ h) ≡ told c h ++ of_caller c (entry_in (after h) n ∷ [])
told_step c n h =
    let e = entry_in (after h) n in
    ap (of_caller c) (reverse-append (e ∷ []) (entries h))
    ∙ filter-append (λ d. eqb d.who c) (reverse (entries h)) (e ∷ [])

-- of this caller
pub told_own : (c : ℕ) (n : Noted) (h : List Noted) → n.who ≡ c
    → told c (n ∷ h) ≡ told c h ++ entry_in (after h) n ∷ []
told_own c n h is =
    told_step c n h ∙ ap (λ es. told c h ++ es) (of_same c (entry_in (after h) n) is)

-- of another
told_other : (c : ℕ) (n : Noted) (h : List Noted) → n.who ≢ c → told c (n ∷ h) ≡ told c h
told_other c n h not =
    told_step c n h
    ∙ (ap (λ es. told c h ++ es) (of_other c (entry_in (after h) n) not) ∙ append-nil (told c h))

-- a longer history has no fewer of the caller's calls
own_grows : (c : ℕ) (more past : List Noted) → length (own c past) ≤ length (own c (more ++ past))
own_grows c [] past = omega arith
own_grows c (n ∷ more) past =
    let rest = own_grows c more past in
    elim (cases_eq n.who c) [
      | inl is ↦ omega (arith, rest, ap length (own_same n (more ++ past) c is))
      | inr not ↦ omega (arith, rest, ap length (own_other n (more ++ past) c not))
    ]

-- while the caller makes no call, its calls tell the same
told_still : (c : ℕ) (more past : List Noted) → own c (more ++ past) ≡ own c past
    → told c (more ++ past) ≡ told c past
told_still c [] past same = refl
told_still c (n ∷ more) past same = elim (cases_eq n.who c) [
  | inl is ↦ absurd (omega (
    arith,
    own_grows c more past,
    ap length (own_same n (more ++ past) c is),
    ap length same,
  ))
  | inr not ↦ told_other c n (more ++ past) not
      ∙ told_still c more past (sym (own_other n (more ++ past) c not) ∙ same)
]

pub told_same : (c : ℕ) (h past : List Noted) → GoesOn h past → own c h ≡ own c past
    → told c h ≡ told c past
told_same c h past on same =
    let is : h ≡ on.0 ++ past = on.1 in
    ap (told c) is ∙ told_still c on.0 past (sym (ap (own c) is) ∙ same)

-- with the caller's next call, they tell its entry too
pub told_more : (c : ℕ) (n : Noted) (h past mine : List Noted) → GoesOn h past → n.who ≡ c
    → mine ≡ own c past → n ∷ mine ≡ own c (n ∷ h)
    → told c (n ∷ h) ≡ told c past ++ entry_in (after h) n ∷ []
told_more c n h past mine on is before now =
    let both : n ∷ mine ≡ n ∷ own c h = now ∙ own_same n h c is in
    let tail : mine ≡ own c h = cc in
    let same : own c h ≡ own c past = sym tail ∙ before in
    told_own c n h is ∙ ap (λ es. es ++ entry_in (after h) n ∷ []) (told_same c h past on same)

pub goes_further : (newest middle oldest : List Noted) → GoesOn newest middle → GoesOn middle oldest
    → GoesOn newest oldest
goes_further newest middle oldest a b =
    (a.0 ++ b.0, a.1 ∙ (ap (λ m. a.0 ++ m) b.1 ∙ sym (append_assoc a.0 b.0 oldest)))

-- no call
pub gained_none : (c : ℕ) (seen made : List Noted) → made ≡ own c seen → Gained c seen seen made []
gained_none c seen made mine = record {
  goes_on = ([], refl);
  mine = mine;
  gains = sym (append-nil (told c seen));
}

-- one call
pub gained_call : (c : ℕ) (n : Noted) (h past before : List Noted) (e : Entry) → GoesOn h past → n.who ≡ c
    → before ≡ own c past → n ∷ before ≡ own c (n ∷ h) → e ≡ entry_in (after h) n
    → Gained c past (n ∷ h) (n ∷ before) (e ∷ [])
gained_call c n h past before e on is was now told_is = record {
  goes_on = (n ∷ on.0, ap (λ t. n ∷ t) on.1);
  mine = now;
  gains = told_more c n h past before on is was now ∙ ap (λ d. told c past ++ d ∷ []) (sym told_is);
}

-- calls, and calls after them
pub gained_more : (c : ℕ) (past mid seen made last : List Noted) (es fs : List Entry) → Gained c past mid made es
    → Gained c mid seen last fs → Gained c past seen last (es ++ fs)
gained_more c past mid seen made last es fs one two = record {
  goes_on = goes_further seen mid past two.goes_on one.goes_on;
  mine = two.mine;
  gains = two.gains ∙ (ap (λ l. l ++ fs) one.gains ∙ append_assoc (told c past) es fs);
}

-- a longer history, in which the caller has no more calls
pub gained_seeing : (c : ℕ) (past mid seen made : List Noted) (es : List Entry) → Gained c past mid made es
    → GoesOn seen mid → made ≡ own c seen → Gained c past seen made es
gained_seeing c past mid seen made es one on all = record {
  goes_on = goes_further seen mid past on one.goes_on;
  mine = all;
  gains = told_same c seen mid on (sym all ∙ one.mine) ∙ one.gains;
}

-- what holds of all elements holds of them in the other order
all_back_to_front : {A : Type 0} (P : A → Type 0) (xs ys : List A) → AllByRecursion P xs → AllByRecursion P ys
    → AllByRecursion P (reverse_aux xs ys)
all_back_to_front P [] ys h k = k
all_back_to_front P (x ∷ xs) ys h k = all_back_to_front P xs (x ∷ ys) h.1 (h.0, k)

-- the entries of calls of callers below a number
of_callers_below : (n : ℕ) (h : List Noted) → AllByRecursion (λ m. m.who < n) h
    → AllByRecursion (λ e. e.who < n) (entries h)
of_callers_below n [] each = tt
of_callers_below n (m ∷ h) each = (each.0, of_callers_below n h each.1)

-- lists of the entries of all callers' own calls have just the history's
pub are_own : (h : List Noted) (seen : ℕ → List Noted) (lists : List (List Entry)) → AreOwnCalls h seen lists
    → AreOwn lists (reverse (entries h))
are_own h seen lists k = record {
  own = λ who below.
      let is = k.each who below in is.tells ∙ sym (told_same who h (seen who) is.goes_on (sym is.all));
  callers = All-from_recursion (λ e. e.who < length lists) (reverse (entries h))
      (all_back_to_front (λ (e : Entry). e.who < length lists) (entries h) []
      (of_callers_below (length lists) h (recursion_from_All (λ n. n.who < length lists) h k.callers)) tt);
}
