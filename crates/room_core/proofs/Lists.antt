-- Reads after writes, and counts after a write.
use Rattle.std.proofs.Common.{◌≡◌, ◌≢◌, ℕ, suc, ◌<◌, ◌≤◌, List, [], ◌∷◌, length, get_or, set, sym, subst, inl, inr, ◌⊎◌, arith, zero, ◌++◌}
use Rattle.std.proofs.lemmas.List.{get_or-set_same, get_or-set_other, get_or_past}
use Rattle.std.proofs.lemmas.List.Sums.{sum_by-set, sum_by-le-sum_by}
use Rattle.std.proofs.lemmas.Bool.{cases_eq, cases_lt}
use Rattle.std.specs.List.{sum_by}
use mathlib.Core.Option.{some, some-injective, some-ne-none}
use lib.ListN.{get_elem?}

-- a member of a list and one more is the one more, or was there
pub at_snoc : {A : Type 0} (l : List A) (a b : A) (j : ℕ) → get_elem? (l ++ a ∷ []) j ≡ some b
    → (get_elem? l j ≡ some b) ⊎ (a ≡ b)
at_snoc [] a b zero e = inr (some-injective a b e)
at_snoc [] a b (suc j) e = absurd (some-ne-none b (sym e))
at_snoc (x ∷ xs) a b zero e = inl e
at_snoc (x ∷ xs) a b (suc j) e = at_snoc xs a b j e

-- what holds at the place written and at each other place
pub each_set : {X : Type 0} (P : ℕ → X → Type 0) (xs : List X) (i : ℕ) (x d : X) → i < length xs
    → P i x → ((j : ℕ) → j ≢ i → P j (get_or xs j d)) → (j : ℕ) → P j (get_or (set xs i x) j d)
each_set P xs i x d h here others j = elim (cases_eq j i) [
  | inl e ↦ subst (λ k. P k (get_or (set xs i x) k d)) (sym e) (subst (P i) (sym (get_or-set_same xs i x d h)) here)
  | inr ne ↦ subst (P j) (sym (get_or-set_other xs i j x d ne)) (others j ne)
]

pub within : (xs : List ℕ) (i : ℕ) → 0 < get_or xs i 0 → i < length xs
within xs i h =
    elim (cases_lt i (length xs))
    [ inl l ↦ l | inr le ↦ absurd (omega (arith, get_or_past xs i 0 le)) ]

-- a place at which one function is larger
pub sum_by-lt : {X : Type 0} (f g : X → ℕ) (xs : List X) (i : ℕ) (d out : X) → i < length xs
    → ((x : X) → f x ≤ g x) → f out ≡ 0 → g out ≡ 0 → f (get_or xs i d) < g (get_or xs i d)
    → sum_by f xs < sum_by g xs
sum_by-lt f g xs i d out h le f0 g0 lt =
    omega (
      arith,
      sum_by-set f xs i out d h,
      sum_by-set g xs i out d h,
      sum_by-le-sum_by f g (set xs i out) le,
    )
