-- What the steps of the counting use ask.
use Rattle.std.proofs.Common.{◌≡◌, ℕ, get_or, refl, ap, sym, subst, arith}
use Rattle.room_rule.specs.Use.{IsAt}
use Rattle.room_gate.specs.Counting.{counting, counted, touched, restored}
use Rattle.room_gate.specs.CountingLaws.{same_view}
use Rattle.room_gate.specs.Shows.{Caller, Insider, KeyHolder}
use Rattle.room_gate.specs.Stepping.{MayStep, MayExit, MayTouch}

module _ {X S : Type 0} where
  -- caller 0 may count, and touch
  pub may_count : (x : X) (i : Insider S (ℕ × ℕ)) (change : ℕ → ℕ) (fits : ℕ → Type 0)
      → i.caller.who ≡ 0 → fits i.caller.user.0 → MayStep counting x i 0 change fits counted
  may_count x i change fits who ok s ins h small =
      let v = i.caller.user in
      let here = subst (λ (z : ℕ). IsAt s.views z v) who h.view in
      let e = (h.lawful v here).0 in let new = change (get_or s.words 0 0) in (
        subst fits (sym e) ok,
        (
          (new, v.1),
          (
            who,
            refl,
            λ u at. ap (λ (z : ℕ × ℕ). (new, z.1)) (same_view s.views v u here at),
          ),
          (e, refl),
        ),
      )

  pub may_touch_it : (x : X) (c : Caller (ℕ × ℕ)) (change : ℕ → ℕ) (fits : ℕ → Type 0)
      → c.who ≡ 0 → fits c.user.1 → MayTouch (counting {X = X} {S = S}) x c 1 change fits touched
  may_touch_it x c change fits who ok s gate h small =
      let v = c.user in
      let here = subst (λ (z : ℕ). IsAt s.views z v) who h.view in
      let e = (h.lawful v here).1 in let new = change (get_or s.words 1 0) in (
        subst fits (sym e) ok,
        (
          (v.0, new),
          (
            who,
            refl,
            λ u at. ap (λ (z : ℕ × ℕ). (z.0, new)) (same_view s.views v u here at),
          ),
          (e, refl),
        ),
      )

  -- the key's holder may store the first word as it knows it
  pub may_restore : (x : X) (k : KeyHolder (ℕ × ℕ)) (change : ℕ → ℕ)
      → ((n : ℕ) → n ≡ get_or k.words 0 0 → change n ≡ n)
      → MayExit (counting {X = X} {S = S}) x k 0 change restored
  may_restore x k change same s h shows small =
      let e = same (get_or s.words 0 0) (shows.same 0 (omega arith) refl) in
      (k.caller.user, (e, h.view), (e, refl))
