-- Lists of views by the callers' numbers: what a step changes, and sums over all callers.
use Rattle.std.proofs.Common.{◌≡◌, ◌≢◌, ℕ, zero, suc, ◌+◌, ◌*◌, ◌<◌, ◌≤◌, ⊎_elim, ◌∙◌, suc-mul, List, [], ◌∷◌, length, get_or, set, sym, refl, ap, subst, arith}
use mathlib.Core.Option.{some-injective, some-ne-none}
use Rattle.std.specs.List.{sum_by}
use Rattle.std.proofs.lemmas.List.Sums.{sum_by-set, get_or-le-sum_by, sum_by-cons}
use Rattle.atomic_table.proofs.Lists.{at_set}
use Rattle.room_rule.specs.Use.{IsAt}

module _ {V : Type 0} where
  -- who has a view is one of the callers
  pub at_below : (views : List V) (who : ℕ) (v : V) → IsAt views who v → who < length views
  at_below [] who v e = absurd (some-ne-none v (sym e))
  at_below (x ∷ xs) zero v e = omega arith
  at_below (x ∷ xs) (suc who) v e = let r = at_below xs who v e in omega arith

  -- and that view is what is read at its number
  pub read_at : (views : List V) (who : ℕ) (v d : V) → IsAt views who v → get_or views who d ≡ v
  read_at [] who v d e = absurd (some-ne-none v (sym e))
  read_at (x ∷ xs) zero v d e = some-injective x v e
  read_at (x ∷ xs) (suc who) v d e = read_at xs who v d e

  -- one caller has one view
  pub one_view : (views : List V) (who : ℕ) (v w : V) → IsAt views who v → IsAt views who w → v ≡ w
  one_view views who v w e f = some-injective v w (sym e ∙ f)

  -- what holds of a caller's new view, and of the others as they were, holds of all after its step
  pub after_step : (K : ℕ → V → Type 0) (views : List V) (who : ℕ) (after : V) → K who after
      → ((c : ℕ) (v : V) → c ≢ who → IsAt views c v → K c v)
      → (c : ℕ) (v : V) → IsAt (set views who after) c v → K c v
  after_step K views who after here others c v e = ⊎_elim
      (λ (t : (c ≡ who) × (after ≡ v)).
      subst (λ (x : ℕ × V). K x.0 x.1) (λ a. (sym t.0 a, t.1 a)) here)
      (λ (t : (c ≢ who) × IsAt views c v). others c v t.0 t.1)
      (at_set views who c after v e)

  -- a sum over the callers changes by what changes in one view
  pub sum_after : (f : V → ℕ) (views : List V) (who : ℕ) (v after : V) → IsAt views who v
      → sum_by f (set views who after) + f v ≡ sum_by f views + f after
  sum_after f views who v after e =
      let there = at_below views who v e in
      let s = sum_by-set f views who after v there in
      let same : f (get_or views who v) ≡ f v = ap f (read_at views who v v e) in
      omega arith

  -- a caller's own part is within the sum
  pub part_of_sum : (f : V → ℕ) (views : List V) (who : ℕ) (v : V) → IsAt views who v
      → f v ≤ sum_by f views
  part_of_sum f views who v e =
      let there = at_below views who v e in
      let s = get_or-le-sum_by f views who v there in
      let same : f (get_or views who v) ≡ f v = ap f (read_at views who v v e) in
      omega arith

  -- a sum in which each part is at most a bound
  pub sum_within : (f : V → ℕ) (most : ℕ) (views : List V)
      → ((who : ℕ) (v : V) → IsAt views who v → f v ≤ most) → sum_by f views ≤ length views * most
  sum_within f most [] h = omega arith
  sum_within f most (x ∷ xs) h =
      let first = h 0 x refl in
      let others = sum_within f most xs (λ who v e. h (suc who) v e) in
      omega (arith, sum_by-cons f x xs, suc-mul (length xs) most)
