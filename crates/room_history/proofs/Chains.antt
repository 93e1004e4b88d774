-- Lists of which each element stands in a transitive relation to those after it.
use Rattle.std.proofs.Common.{◌≡◌, suc, ◌+◌, ◌⊎◌, inl, inr, List, [], ◌∷◌, length, get_or, refl, sym, ap, ◌∙◌, subst, arith}
use Rattle.std.specs.List.{AllAdjacentBelow, AllByRecursion}
use Rattle.std.specs.List.Sorted.{IsPermutation}
use Rattle.std.proofs.lemmas.List.Elements.{All-from_recursion, recursion_from_All}
use Rattle.std.proofs.lemmas.List.Sorted.{IsPermutation-sym, All-permutation}

-- each element stands in R to those after it
abbrev pub Chain : {X : Type 0} → (X → X → Type 0) → List X → Type 0
Chain R [] = Unit {0}
Chain R (x ∷ xs) = AllByRecursion (R x) xs × Chain R xs

pub each_weaker : {X : Type 0} (P Q : X → Type 0) → ((x : X) → P x → Q x) → (xs : List X) → AllByRecursion P xs → AllByRecursion Q xs
each_weaker P Q w [] h = tt
each_weaker P Q w (x ∷ xs) h = (w x h.0, each_weaker P Q w xs h.1)

-- x is one of the elements
In : {X : Type 0} → List X → X → Type 0
In [] x = ⊥
In (y ∷ ys) x = (x ≡ y) ⊎ In ys x

each_in : {X : Type 0} (xs : List X) → AllByRecursion (In xs) xs
unfolding In
each_in [] = tt
each_in (x ∷ xs) = (inl refl, each_weaker (In xs) (In (x ∷ xs)) (λ z h. inr h) xs (each_in xs))

all_in : {X : Type 0} (P : X → Type 0) (xs : List X) (x : X) → AllByRecursion P xs → In xs x → P x
unfolding In
all_in P [] x h there = absurd there
all_in P (y ∷ ys) x h there = elim there [ inl is ↦ subst P (sym is) h.0 | inr later ↦ all_in P ys x h.1 later ]

module _ {X : Type 0} (R : X → X → Type 0) (trans : (x y z : X) → R x y → R y z → R x z) where
  pub chain_from : (xs : List X) → AllAdjacentBelow R xs (length xs) → Chain R xs
  chain_from [] near = tt
  chain_from (x ∷ []) near = (tt, tt)
  chain_from (x ∷ y ∷ xs) near =
      let rest : Chain R (y ∷ xs) = chain_from (y ∷ xs) (λ k d less.
      let past : suc k + 1 ≡ suc (k + 1) = omega arith in
      subst (λ j. R (get_or (y ∷ xs) k d) (get_or (x ∷ y ∷ xs) j d)) past (near (suc k) d (omega (arith, less)))) in
      let first : R x y = near 0 x (omega arith) in
      ((first, each_weaker (R y) (R x) (λ z. trans x y z first) xs rest.0), rest)

  module _ (never : (x : X) → R x x → ⊥) where
    in_rest : (x : X) (xs ys : List X) → AllByRecursion (R x) xs → AllByRecursion (In (x ∷ ys)) xs → AllByRecursion (In ys) xs
    unfolding In
    in_rest x [] ys after there = tt
    in_rest x (z ∷ xs) ys after there =
        elim there.0 [ inl is ↦ absurd (never x (subst (R x) is after.0)) | inr later ↦ (later, in_rest x xs ys after.1 there.1) ]

    same_heads : (x y : X) (xs ys : List X) → AllByRecursion (R x) xs → AllByRecursion (R y) ys → In (y ∷ ys) x → In (x ∷ xs) y → x ≡ y
    unfolding In
    same_heads x y xs ys after_x after_y x_in y_in =
        elim x_in [
          | inl is ↦ is
          | inr x_later ↦ elim y_in [ inl is ↦ sym is | inr y_later ↦ absurd (never x (trans x y x (all_in (R x) xs y after_x y_later) (all_in (R y) ys x after_y x_later))) ]
        ]

    same_elements : (xs ys : List X) → Chain R xs → Chain R ys → AllByRecursion (In ys) xs → AllByRecursion (In xs) ys → xs ≡ ys
    unfolding In
    same_elements [] [] first second xs_in ys_in = refl
    same_elements [] (y ∷ ys) first second xs_in ys_in = absurd ys_in.0
    same_elements (x ∷ xs) [] first second xs_in ys_in = absurd xs_in.0
    same_elements (x ∷ xs) (y ∷ ys) first second xs_in ys_in =
        let heads : x ≡ y = same_heads x y xs ys first.0 second.0 xs_in.0 ys_in.0 in
        let tails : xs ≡ ys = same_elements xs ys first.1 second.1
        (in_rest x xs ys first.0 (subst (λ z. AllByRecursion (In (z ∷ ys)) xs) (sym heads) xs_in.1))
        (in_rest y ys xs second.0 (subst (λ z. AllByRecursion (In (z ∷ xs)) ys) heads ys_in.1)) in
        ap (λ z. z ∷ xs) heads ∙ ap (λ zs. y ∷ zs) tails

    -- elements stand so in one order alone
    pub one_order : (xs ys : List X) → IsPermutation xs ys → Chain R xs → Chain R ys → xs ≡ ys
    one_order xs ys moved first second =
        same_elements xs ys first second
        (recursion_from_All (In ys) xs (All-permutation (In ys) ys xs (IsPermutation-sym xs ys moved) (All-from_recursion (In ys) ys (each_in ys))))
        (recursion_from_All (In xs) ys (All-permutation (In xs) xs ys moved (All-from_recursion (In xs) xs (each_in xs))))
