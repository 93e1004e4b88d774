-- Texts and the line at which they first break their rules.
use Rattle.std.proofs.Common.{◌≡◌, ℕ, ◌+◌, ◌-◌, ◌<◌, ◌≤◌, inl, inr, List, ◌++◌, length, take, drop, append_assoc, ap, sym, ◌∙◌, subst, arith}
use Rattle.std.proofs.lemmas.List.{take-append-drop, take-take}
use Rattle.std.proofs.lemmas.Bool.{cases_lt}
use Rattle.room_script.specs.Breaks.{Begins, BreaksAt}

module _ (Keeps : List (List ℕ) → Type 0) where
  -- the front of a front
  pub begins_less : (lines : List (List ℕ)) (i j : ℕ) → i ≤ j → Begins Keeps (take j lines) → Begins Keeps (take i lines)
  begins_less lines i j less begins =
      let front : take j lines ≡ take i lines ++ drop i (take j lines) =
      sym (take-append-drop i (take j lines)) ∙ ap (λ xs. xs ++ drop i (take j lines)) (take-take i j lines less) in
      (drop i (take j lines) ++ begins.0, subst Keeps (ap (λ xs. xs ++ begins.0) front ∙ append_assoc (take i lines) (drop i (take j lines)) begins.0) begins.1)

  pub begins_whole : (lines : List (List ℕ)) (i : ℕ) → Keeps lines → Begins Keeps (take i lines)
  begins_whole lines i keeps = (drop i lines, subst Keeps (sym (take-append-drop i lines)) keeps)

  -- a text that keeps the rules breaks them nowhere
  pub never_both : (lines : List (List ℕ)) (k : ℕ) → Keeps lines → BreaksAt Keeps lines k → ⊥
  never_both lines k keeps breaks =
      elim (cases_lt (length lines) k) [ inl past ↦ breaks.missing past keeps | inr within ↦ breaks.wrong within (begins_whole lines k keeps) ]

  not_before : (lines : List (List ℕ)) (j k : ℕ) → j < k → BreaksAt Keeps lines j → BreaksAt Keeps lines k → ⊥
  not_before lines j k less at_j at_k = at_j.wrong (omega (arith, less, at_k.near)) (begins_less lines j (k - 1) (omega arith) at_k.before)

  -- it breaks them at one line
  pub same_line : (lines : List (List ℕ)) (j k : ℕ) → BreaksAt Keeps lines j → BreaksAt Keeps lines k → j ≡ k
  same_line lines j k at_j at_k =
      elim (cases_lt j k) [
        | inl less ↦ absurd (not_before lines j k less at_j at_k)
        | inr most ↦ elim (cases_lt k j) [ inl more ↦ absurd (not_before lines k j more at_k at_j) | inr least ↦ omega arith ]
      ]

  -- the line after those that keep the rules is wrong, or missing
  pub breaks_next : (lines : List (List ℕ)) (i : ℕ) → i ≤ length lines → Begins Keeps (take i lines) → (i < length lines → Begins Keeps (take (i + 1) lines) → ⊥)
      → (i ≡ length lines → Keeps lines → ⊥) → BreaksAt Keeps lines (i + 1)
  breaks_next lines i within begins wrong missing =
      let back : (i + 1) - 1 ≡ i = omega arith in
      record {
        counted = omega arith;
        near = omega arith;
        before = rw back begins;
        wrong = λ more. wrong (omega arith);
        missing = λ past. missing (omega arith);
      }
