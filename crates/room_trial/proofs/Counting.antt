-- How many calls and stored items a history and its entries have.
use Rattle.std.proofs.Common.{◌≡◌, ◌≢◌, ℕ, ◌+◌, inl, inr, cond, List, [], ◌∷◌, ◌++◌, length, reverse, ap, ◌∙◌, arith}
use mathlib.Core.List.{reverse_aux}
use Rattle.std.proofs.lemmas.Bool.{cases_eq, ne_eqb}
use Rattle.std.proofs.lemmas.List.{length-append}
use Rattle.bay_core.specs.declared.calls.Entry.{Entry}
use Rattle.bay_core.specs.declared.calls.Noted.{Noted}
use Rattle.bay_core.specs.Noted.{entry_in, after}
use Rattle.bay_core.specs.History.{own}
use Rattle.bay_core.specs.Told.{of_caller, told}
use Rattle.bay_core.proofs.OwnCalls.{own_same, own_other}
use Rattle.bay_core.proofs.Telling.{told_step, told_own}
use Rattle.bay_rule.specs.Draws.{done, dones}

of_other : (c : ℕ) (e : Entry) → e.who ≢ c → of_caller c (e ∷ []) ≡ []
of_other c e not = ap (λ b. cond b (e ∷ []) []) (ne_eqb e.who c not)

-- a caller's own calls have an entry each
pub many_told : (c : ℕ) (h : List Noted) → length (told c h) ≡ length (own c h)
many_told c [] = omega arith
many_told c (n ∷ h) =
    let e = entry_in (after h) n in
    elim (cases_eq n.who c) [
      | inl is ↦ omega (
        arith,
        many_told c h,
        ap length (told_own c n h is),
        length-append (told c h) (e ∷ []),
        ap length (own_same n h c is),
      )
      | inr not ↦ omega (
        arith,
        many_told c h,
        ap length (told_step c n h ∙ ap (λ es. told c h ++ es) (of_other c e not)),
        length-append (told c h) [],
        ap length (own_other n h c not),
      )
    ]

dones_onto : (es ds : List Entry) → dones (reverse_aux es ds) ≡ dones es + dones ds
dones_onto [] ds = omega arith
dones_onto (e ∷ es) ds = omega (arith, dones_onto es (e ∷ ds))

-- as many items were stored, in whatever order the entries stand
pub dones_in_order : (es : List Entry) → dones (reverse es) ≡ dones es
dones_in_order es = omega (arith, dones_onto es [])
