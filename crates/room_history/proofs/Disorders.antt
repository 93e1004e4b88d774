-- There is at most one first disorder, and none in a list in order.
use Rattle.std.proofs.Common.{◌≡◌, ℕ, ◌+◌, ◌-◌, ◌<◌, inl, inr, List, [], ◌∷◌, length, get_or, subst, arith}
use Rattle.std.proofs.lemmas.Bool.{cases_lt}
use Rattle.bay_core.specs.declared.calls.Entry.{Entry}
use Rattle.bay_core.specs.Legal.{Before, Ordered, OrderedBelow}
use Rattle.room_history.specs.Order.{IsFirstDisorder}

never_below : (es : List Entry) (i n : ℕ) → IsFirstDisorder es i → OrderedBelow es n → i < n → ⊥
never_below [] i n found ordered less = omega (arith, found.within)
never_below (e ∷ es) i n found ordered less =
    let back : i - 1 + 1 ≡ i = omega (arith, found.counted) in
    found.disorder e (subst (λ j. Before (get_or (e ∷ es) (i - 1) e) (get_or (e ∷ es) j e)) back (ordered (i - 1) e (omega (arith, less, found.counted))))

pub never_ordered : (es : List Entry) (i : ℕ) → Ordered es → IsFirstDisorder es i → ⊥
never_ordered es i ordered found = never_below es i (length es) found ordered found.within

pub one_disorder : (es : List Entry) (i j : ℕ) → IsFirstDisorder es i → IsFirstDisorder es j → i ≡ j
one_disorder es i j first second =
    elim (cases_lt i j) [
      | inl less ↦ absurd (never_below es i j first second.ordered less)
      | inr most ↦ elim (cases_lt j i) [ inl more ↦ absurd (never_below es j i second first.ordered more) | inr least ↦ omega (arith, most, least) ]
    ]
