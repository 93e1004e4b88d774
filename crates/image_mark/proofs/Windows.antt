-- The part of a ring's buffer that holds its members.
use Rattle.std.proofs.Common.{◌≡◌, ℕ, ◌+◌, ◌-◌, ◌%◌, ◌<◌, ◌≤◌, ◌⊎◌, List, [], ◌∷◌, ◌++◌, length, get_or, take, set, ap, ◌∙◌, ap₂, inl, inr, mod-eq_of_lt, arith, length-append, length-drop, length-set, length-take-le, get_or-drop, get_or-take}
use native.Mathlib.Nat.{mod-eq-sub-mod, mod-add-mod}
use Rattle.std.proofs.lemmas.List.{same_lists, drop_more, get_or_append_left, get_or-append_right}
use Rattle.std.proofs.lemmas.Bool.{cases_lt}
use Rattle.std.proofs.lemmas.Grind.{common_steps}
use Rattle.image_mark.specs.Windows.{window}

-- an index below 16 wraps once at most
wraps_once : (j : ℕ) → j < 16 → ((j < 8) × (j % 8 ≡ j)) ⊎ ((8 ≤ j) × (j % 8 ≡ j - 8))
wraps_once j below = elim (cases_lt j 8) [
  | inl low ↦ inl (low, mod-eq_of_lt low)
  | inr high ↦ inr (high, mod-eq-sub-mod high ∙ mod-eq_of_lt (omega arith))
]

module _ {X : Type 0} (k n : ℕ) (xs : List X) (start : k < 8) (few : n ≤ 8) (long : length xs ≡ 8) where
  pub length-window : length (window k n xs) ≡ n
  length-window = length-take-le n _ (simp (length-append, length-drop) (omega (arith, length-take-le k xs (omega arith))))

  -- member i of the window stands in slot (k + i) % 8
  get_or-window : (i : ℕ) (d : X) → i < n → get_or (window k n xs) i d ≡ get_or xs ((k + i) % 8) d
  get_or-window i d below =
      let rest = length-drop k xs in
      get_or-take n _ i d below ∙ elim (wraps_once (k + i) (omega arith)) [
        | inl low ↦ get_or_append_left _ _ d i (omega arith) ∙ get_or-drop k xs i d ∙ ap (λ j. get_or xs j d) (omega arith)
        | inr high ↦ get_or-append_right _ _ (8 - k) i d (omega arith) (omega arith) ∙ get_or-take k xs _ d (omega arith) ∙ ap (λ j. get_or xs j d) (omega arith)
      ]

module _ {X : Type 0} (k n : ℕ) (xs : List X) (start : k < 8) (few : n ≤ 8) (long : length xs ≡ 8) where
  -- a write behind the last member adds it at the end
  pub window_after_put : (x : X) → n < 8 → window k (n + 1) (set xs ((k + n) % 8) x) ≡ window k n xs ++ x ∷ []
  window_after_put x room =
      let ys = set xs ((k + n) % 8) x in
      let length_ys = length-set xs ((k + n) % 8) x ∙ long in
      let length_old = length-window k n xs start few long in
      let length_new = length-window k (n + 1) ys start (omega arith) length_ys in
      let written = wraps_once (k + n) (omega arith) in
      same_lists _ _ (grind (arith, common_steps)) (λ i d below. grind (
        arith,
        common_steps,
        wraps_once (k + i) (omega arith),
        get_or-window k n xs start few long i d,
        get_or-window k (n + 1) ys start (omega arith) length_ys i d,
      ))

  -- the window is slot k, and then the window from the next slot on
  pub window_before_take : (d : X) → 0 < n → window k n xs ≡ get_or xs k d ∷ window ((k + 1) % 8) (n - 1) xs
  window_before_take d some =
      let next_start : (k + 1) % 8 < 8 = grind (arith, wraps_once (k + 1) (omega arith)) in
      let length_old = length-window k n xs start few long in
      let length_new = length-window ((k + 1) % 8) (n - 1) xs next_start (omega arith) long in
      let old_member = get_or-window k n xs start few long in
      drop_more _ 0 d (omega arith) ∙ ap₂ ◌∷◌ (grind (arith, old_member 0 d, wraps_once k)) (same_lists _ _ (simp length-drop (omega arith)) (λ i e below. grind (
        arith,
        length-drop 1 (window k n xs),
        get_or-drop 1 (window k n xs) i e,
        mod-add-mod (k + 1) 8 i,
        old_member (1 + i) e,
        get_or-window _ (n - 1) xs next_start (omega arith) long i e,
      )))
