-- The own entries of all callers are all entries.
use Rattle.std.proofs.Common.{◌≡◌, ℕ, zero, suc, ◌+◌, ◌<◌, ◌≤◌, inl, inr, Bool, true, false, cond, List, [], ◌∷◌, ◌++◌, length, get_or, take, ltb, eqb, eq-eqb, refl, sym, ap, ◌∙◌, subst, arith}
use Rattle.std.specs.List.{AllByRecursion, filter}
use Rattle.std.specs.List.Sorted.{IsPermutation}
use Rattle.std.proofs.lemmas.Bool.{cases_eq, cases_lt, lt-ltb, le-ltb, ne_eqb}
use Rattle.std.proofs.lemmas.Grind.{flat_map-append}
use Rattle.std.proofs.lemmas.List.{append-nil, take_all, take_more}
use Rattle.std.proofs.lemmas.List.Elements.{recursion_from_All}
use Rattle.std.proofs.lemmas.List.Sorted.{IsPermutation-refl, IsPermutation-sym, IsPermutation-cons, IsPermutation-trans, IsPermutation-middle, IsPermutation-append_left}
use Rattle.bay_core.specs.declared.calls.Entry.{Entry}
use Rattle.room_history.specs.Merging.{given}
use Rattle.bay_core.specs.Told.{of_caller, AreOwn}

-- the entries of the callers below n
abbrev below : ℕ → List Entry → List Entry
below n es = filter (λ e. ltb e.who n) es

kept : (test : Entry → Bool) (e : Entry) (es : List Entry) → test e ≡ true → filter test (e ∷ es) ≡ e ∷ filter test es
kept test e es is = ap (λ b. cond b (e ∷ filter test es) (filter test es)) is

left_out : (test : Entry → Bool) (e : Entry) (es : List Entry) → test e ≡ false → filter test (e ∷ es) ≡ filter test es
left_out test e es is = ap (λ b. cond b (e ∷ filter test es) (filter test es)) is

moved_so : (xs ys zs us vs ws : List Entry) → xs ≡ us → ys ≡ vs → zs ≡ ws → IsPermutation us (vs ++ ws) → IsPermutation xs (ys ++ zs)
moved_so xs ys zs us vs ws x y z moved = rw (x, y, z) moved

-- one caller more
one_more : (n : ℕ) (es : List Entry) → IsPermutation (below (n + 1) es) (below n es ++ of_caller n es)
one_more n [] = IsPermutation-refl []
one_more n (e ∷ es) =
    let rest = one_more n es in
    let more : Entry → Bool = λ e. ltb e.who (n + 1) in
    let less : Entry → Bool = λ e. ltb e.who n in
    let same : Entry → Bool = λ e. eqb e.who n in
    elim (cases_lt e.who n) [
      | inl under ↦ moved_so _ _ _ (e ∷ below (n + 1) es) (e ∷ below n es) (of_caller n es)
          (kept more e es (lt-ltb e.who (n + 1) (omega (arith, under))))
          (kept less e es (lt-ltb e.who n under))
          (left_out same e es (ne_eqb e.who n (λ is. omega (arith, is, under))))
          (IsPermutation-cons e (below (n + 1) es) (below n es ++ of_caller n es) rest)
      | inr most ↦ elim (cases_eq e.who n) [
        | inl is ↦ moved_so _ _ _ (e ∷ below (n + 1) es) (below n es) (e ∷ of_caller n es)
            (kept more e es (lt-ltb e.who (n + 1) (omega (arith, is))))
            (left_out less e es (le-ltb e.who n most))
            (kept same e es (eq-eqb e.who n is))
            (IsPermutation-trans (e ∷ below (n + 1) es) (e ∷ (below n es ++ of_caller n es)) (below n es ++ e ∷ of_caller n es)
            (IsPermutation-cons e (below (n + 1) es) (below n es ++ of_caller n es) rest)
            (IsPermutation-sym _ _ (IsPermutation-middle (below n es) e (of_caller n es))))
        | inr other ↦ moved_so _ _ _ (below (n + 1) es) (below n es) (of_caller n es)
            (left_out more e es (le-ltb e.who (n + 1) (omega (arith, most, other))))
            (left_out less e es (le-ltb e.who n most))
            (left_out same e es (ne_eqb e.who n other))
            rest
      ]
    ]

given_more : (lists : List (List Entry)) (n : ℕ) → n < length lists → given (take (n + 1) lists) ≡ given (take n lists) ++ get_or lists n []
given_more lists n within =
    ap given (take_more lists n [] within)
    ∙ (flat_map-append (λ list. list) (take n lists) (get_or lists n [] ∷ []) ∙ ap (λ xs. given (take n lists) ++ xs) (append-nil (get_or lists n [])))

none_below : (es : List Entry) → below 0 es ≡ []
none_below [] = refl
none_below (e ∷ es) = left_out (λ e. ltb e.who 0) e es (le-ltb e.who 0 (omega arith)) ∙ none_below es

all_below : (n : ℕ) (es : List Entry) → AllByRecursion (λ e. e.who < n) es → below n es ≡ es
all_below n [] each = refl
all_below n (e ∷ es) each = kept (λ e. ltb e.who n) e es (lt-ltb e.who n each.0) ∙ ap (λ xs. e ∷ xs) (all_below n es each.1)

of_first : (lists : List (List Entry)) (es : List Entry) (n : ℕ) → AreOwn lists es → n ≤ length lists → IsPermutation (below n es) (given (take n lists))
of_first lists es zero own within = rw (none_below es) (IsPermutation-refl [])
of_first lists es (suc n) own within =
    let inside : n < length lists = omega (arith, within) in
    let next : suc n ≡ n + 1 = omega arith in
    let grown : given (take n lists) ++ of_caller n es ≡ given (take (n + 1) lists) =
    ap (λ xs. given (take n lists) ++ xs) (sym (own.own n inside)) ∙ sym (given_more lists n inside) in
    subst (λ m. IsPermutation (below m es) (given (take m lists))) (sym next)
    (IsPermutation-trans (below (n + 1) es) (below n es ++ of_caller n es) (given (take (n + 1) lists)) (one_more n es)
    (subst (IsPermutation (below n es ++ of_caller n es)) grown
    (IsPermutation-append_left (of_caller n es) (below n es) (given (take n lists)) (of_first lists es n own (omega (arith, within))))))

pub own_entries : (lists : List (List Entry)) (es : List Entry) → AreOwn lists es → IsPermutation es (given lists)
own_entries lists es own =
    subst (λ xs. IsPermutation xs (given lists)) (all_below (length lists) es (recursion_from_All (λ e. e.who < length lists) es own.callers))
    (subst (λ ls. IsPermutation (below (length lists) es) (given ls)) (take_all (length lists) lists (omega arith)) (of_first lists es (length lists) own (omega arith)))
