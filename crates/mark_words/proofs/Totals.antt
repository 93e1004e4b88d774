-- Sums over lists, and how often a bit stands in one.
use Rattle.std.proofs.Common.{◌≡◌, ◌≢◌, ℕ, zero, suc, ◌+◌, ◌≤◌, cond, eqb, eq-eqb, ne_eqb, List, [], ◌∷◌, ◌++◌, set, refl, ap, sym, ◌∙◌, arith}
use mathlib.Core.Option.{some-injective, some-ne-none}
use Rattle.mark_words.specs.Bits.{times, total}
use Rattle.mark_words.specs.Rule.{IsAt}

zero_add : (n : ℕ) → 0 + n ≡ n
zero_add n = omega arith

pub times_same : (b : ℕ) (xs : List ℕ) → times b (b ∷ xs) ≡ 1 + times b xs
times_same b xs = ap (λ t. cond t 1 0 + times b xs) (eq-eqb b b refl)

pub times_other : (b c : ℕ) (xs : List ℕ) → c ≢ b → times c (b ∷ xs) ≡ times c xs
times_other b c xs ne =
    ap (λ t. cond t 1 0 + times c xs) (ne_eqb b c (λ e. ne (sym e))) ∙ zero_add (times c xs)

pub times_append : (b : ℕ) (xs ys : List ℕ) → times b (xs ++ ys) ≡ times b xs + times b ys
times_append b [] ys = sym (zero_add (times b ys))
times_append b (x ∷ xs) ys =
    let q = times_append b xs ys in let n : ℕ = cond (eqb x b) 1 0 in omega arith

module _ {A : Type 0} (f : A → ℕ) where
  -- the sum after one member changed
  pub total_set : (l : List A) (i : ℕ) (a b : A) → IsAt l i a
      → total f (set l i b) + f a ≡ total f l + f b
  total_set [] i a b at = absurd (some-ne-none a (sym at))
  total_set (x ∷ xs) zero a b at =
      let e : f x ≡ f a = ap f (some-injective x a at) in omega arith
  total_set (x ∷ xs) (suc i) a b at = let q = total_set xs i a b at in omega arith

  pub total_append : (l m : List A) → total f (l ++ m) ≡ total f l + total f m
  total_append [] m = sym (zero_add (total f m))
  total_append (x ∷ xs) m = let q = total_append xs m in omega arith

  -- a member is no more than the sum
  pub part_le : (l : List A) (i : ℕ) (a : A) → IsAt l i a → f a ≤ total f l
  part_le [] i a at = absurd (some-ne-none a (sym at))
  part_le (x ∷ xs) zero a at = let e : f x ≡ f a = ap f (some-injective x a at) in omega arith
  part_le (x ∷ xs) (suc i) a at = let q = part_le xs i a at in omega arith

module _ {A : Type 0} (f g : A → ℕ) where
  -- members that are 0 in one sum are 0 in another
  none_else : (l : List A) → ((j : ℕ) (x : A) → IsAt l j x → f x ≡ 0 → g x ≡ 0)
      → total f l ≡ 0 → total g l ≡ 0
  none_else [] each e = refl
  none_else (x ∷ xs) each e =
      let q = none_else xs (λ j y at. each (suc j) y at) (omega arith) in
      let p = each 0 x refl (omega arith) in omega arith

  -- where one member is all of one sum, it is all of the other
  pub alone : (l : List A) (i : ℕ) (a : A) → IsAt l i a
      → ((j : ℕ) (x : A) → IsAt l j x → f x ≡ 0 → g x ≡ 0) → total f l ≡ f a → total g l ≡ g a
  alone [] i a at each e = absurd (some-ne-none a (sym at))
  alone (x ∷ xs) zero a at each e =
      let p : f x ≡ f a = ap f (some-injective x a at) in
      let r : g x ≡ g a = ap g (some-injective x a at) in
      let q = none_else xs (λ j y at. each (suc j) y at) (omega arith) in omega arith
  alone (x ∷ xs) (suc i) a at each e =
      let low = part_le f xs i a at in
      let p = each 0 x refl (omega arith) in
      let q = alone xs i a at (λ j y at. each (suc j) y at) (omega arith) in omega arith
