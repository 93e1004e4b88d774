-- What callers that run together bring back, by its places.
use Rattle.std.proofs.Common.{ℕ, zero, suc, ◌<◌, List, [], ◌∷◌, length, refl, subst, arith}
use Rattle.room_rule.specs.Use.{IsAt}
use Rattle.room_rule.specs.Callers.{at_below, read_at}
use Rattle.room_gate.specs.Together.{EachGives}

-- something stands at each place below the length
pub thing_at : {A : Type 0} (xs : List A) (i : ℕ) → i < length xs → (x : A) × IsAt xs i x
thing_at [] i h = absurd (omega arith)
thing_at (x ∷ xs) zero h = (x, refl)
thing_at (x ∷ xs) (suc i) h = thing_at xs i (omega arith)

-- R holds of what stands at one place of both
pub given_at : {A B : Type 0} (R : A → B → Type 0) (xs : List A) (ys : List B) → EachGives R xs ys
    → (i : ℕ) (x : A) (y : B) → IsAt xs i x → IsAt ys i y → R x y
given_at {A} {B} R xs ys each i x y at its = subst (λ (z : A × B). R z.0 z.1)
    (λ k. (read_at xs i x x at k, read_at ys i y y its k)) (each i x y (at_below xs i x at))
