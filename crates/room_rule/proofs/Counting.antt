-- As many numbers below n as n, no two of them equal, are all of them.
use Rattle.std.proofs.Common.{◌≡◌, ℕ, zero, suc, ◌<◌, ◌⊎◌, ⊎_elim, inl, inr, Bool, true, false, ◌||◌, eqb, List, [], ◌∷◌, length, sym, refl, ap, ◌∙◌, subst, arith}
use mathlib.Core.Option.{some, some-injective}
use Rattle.std.specs.List.{list_any, IsDistinct, AllByRecursion}
use Rattle.std.proofs.lemmas.Bool.{ne_eqb, cases_eq}
use Rattle.std.proofs.lemmas.Map.Steps.{length-le_from_distinct_below}
use Rattle.room_rule.specs.Use.{IsAt}

not_true : false ≡ true → ⊥
not_true e = cc

-- a number stands in the list, or is none of it
here_or_not : (xs : List ℕ) (c : ℕ)
    → ((i : ℕ) × IsAt xs i c) ⊎ AllByRecursion (λ y. eqb c y ≡ false) xs
here_or_not [] c = inr tt
here_or_not (x ∷ xs) c = elim (cases_eq x c) [
  | inl same ↦ inl (0, ap some same)
  | inr ne ↦ ⊎_elim
      (λ (t : (i : ℕ) × IsAt xs i c). inl (suc t.0, t.1))
      (λ (f : AllByRecursion (λ y. eqb c y ≡ false) xs).
      inr (ne_eqb c x (λ e. ne (sym e)), f))
      (here_or_not xs c)
]

apart : (xs : List ℕ) → ((i j a : ℕ) → IsAt xs i a → IsAt xs j a → i ≡ j) → IsDistinct eqb xs
unfolding IsDistinct
apart [] once = tt
apart (x ∷ xs) once = (
  ⊎_elim
      (λ (t : (i : ℕ) × IsAt xs i x).
      absurd (let q = once 0 (suc t.0) x refl t.1 in omega arith))
      (λ (f : AllByRecursion (λ y. eqb x y ≡ false) xs). f)
      (here_or_not xs x),
  apart xs (λ i j a p q. let e = once (suc i) (suc j) a p q in omega arith),
)

below : (xs : List ℕ) (n : ℕ) → ((i a : ℕ) → IsAt xs i a → a < n) → (q : ℕ)
    → list_any (eqb q) xs ≡ true → q < n
below [] n low q e = absurd (not_true e)
below (x ∷ xs) n low q e = elim (cases_eq q x) [
  | inl same ↦ (let l = low 0 x refl in omega arith)
  | inr ne ↦ below xs n (λ i. low (suc i)) q
      (ap (λ (b : Bool). b || list_any (eqb q) xs) (sym (ne_eqb q x ne)) ∙ e)
]

low_more : (xs : List ℕ) (n c : ℕ) → c < n → ((i a : ℕ) → IsAt xs i a → a < n) → (i a : ℕ)
    → IsAt (c ∷ xs) i a → a < n
low_more xs n c under low zero a at = subst (λ (z : ℕ). z < n) (some-injective c a at) under
low_more xs n c under low (suc i) a at = low i a at

pub each_is_in : (xs : List ℕ) (n : ℕ) → length xs ≡ n → ((i a : ℕ) → IsAt xs i a → a < n)
    → ((i j a : ℕ) → IsAt xs i a → IsAt xs j a → i ≡ j) → (c : ℕ) → c < n
    → (i : ℕ) × IsAt xs i c
unfolding IsDistinct
each_is_in xs n long low once c under = ⊎_elim
    (λ (t : (i : ℕ) × IsAt xs i c). t)
    (λ (f : AllByRecursion (λ y. eqb c y ≡ false) xs).
    absurd (let q = length-le_from_distinct_below (c ∷ xs) n (f, apart xs once)
    (below (c ∷ xs) n (low_more xs n c under low)) in omega arith))
    (here_or_not xs c)
