-- The laws of the counting use.
use Rattle.std.specs.Prelude.{◌≡◌, ℕ, ◌<◌, true, Option, Some, None, List, [], ◌∷◌, length, refl}
use Rattle.std.proofs.Common.{◌∙◌, eqb, set, ap, sym, subst, inl, arith}
use Rattle.std.proofs.lemmas.Bool.{eqb-true}
use Rattle.std.proofs.lemmas.List.{set-get_or, get_or-set_same, get_or-set_other}
use mathlib.Core.Option.{some-injective, some-ne-none}
use Rattle.atomic_table.proofs.Lists.{set_again}
use Rattle.room_rule.specs.Use.{IsAt}
use Rattle.room_rule.specs.Laws.{Laws}
use Rattle.room_rule.proofs.Lists.{there_set}
use Rattle.room_gate.specs.Counting.{IsCounted, counting}

no_slot : (k : ℕ) → ◌≡◌ {A = Option ℕ} None (Some k) → ⊥
no_slot k e = cc

not_one : (k : ℕ) → k ≡ 0 → eqb k 1 ≡ true → ⊥
not_one k e f = let same = eqb-true k 1 f in omega arith

pub same_view : (views : List (ℕ × ℕ)) (u v : ℕ × ℕ) → IsAt views 0 u → IsAt views 0 v → u ≡ v
same_view views u v at there = some-injective u v (sym at ∙ there)

someone : (callers : ℕ) (views : List (ℕ × ℕ)) (v : ℕ × ℕ) → length views ≡ callers
    → IsAt views 0 v → 0 < callers
someone callers [] v e at = absurd (some-ne-none v (sym at))
someone callers (x ∷ xs) v e at = omega arith

module _ (words : List ℕ) (views : List (ℕ × ℕ)) (v : ℕ × ℕ) (value : ℕ) (h : IsCounted words views)
    (here : IsAt views 0 v) (long : length words ≡ 2) where
  set_first : IsCounted (set words 0 value) (set views 0 (value, v.1))
  set_first u at =
      let is = same_view (set views 0 (value, v.1)) (value, v.1) u
      (there_set views 0 v (value, v.1) here) at in (
        get_or-set_same words 0 value 0 (omega arith) ∙ ap (λ (z : ℕ × ℕ). z.0) is,
        get_or-set_other words 0 1 value 0 (λ e. omega arith)
            ∙ ((h v here).1 ∙ ap (λ (z : ℕ × ℕ). z.1) is),
      )

  set_second : IsCounted (set words 1 value) (set views 0 (v.0, value))
  set_second u at =
      let is = same_view (set views 0 (v.0, value)) (v.0, value) u
      (there_set views 0 v (v.0, value) here) at in (
        get_or-set_other words 1 0 value 0 (λ e. omega arith)
            ∙ ((h v here).0 ∙ ap (λ (z : ℕ × ℕ). z.0) is),
        get_or-set_same words 1 value 0 (omega arith) ∙ ap (λ (z : ℕ × ℕ). z.1) is,
      )

module _ {X S : Type 0} where
  pub counting_laws : Laws (counting {X = X} {S = S})
  counting_laws = record {
    starts = λ x callers s few wide each long wide_slots at_home all v at.
        let is = same_view s.views (0, 0) v (all 0 (someone callers s.views v long at)) at in (
          each 0 (omega arith) ∙ ap (λ (z : ℕ × ℕ). z.0) is,
          each 1 (omega arith) ∙ ap (λ (z : ℕ × ℕ). z.1) is,
        );
    opens = λ x s turn room h. h;
    enters = λ x s room turn ins who v h at may low. h;
    steps = λ x s room turn ins who v word value after contents h there may.
        let here = subst (λ (z : ℕ). IsAt s.views z v) may.0 h.view in
        subst (λ (z : ℕ × ℕ × (ℕ × ℕ)). IsCounted (set s.words z.0 value) (set s.views z.1 z.2))
        (λ i. (sym may.1 i, sym may.0 i, sym (may.2 v here) i))
        (set_first s.words s.views v value h.lawful here h.sized);
    leaves = λ x s room turn ins who v h may. h.lawful;
    leaves_last = λ x s room turn ins who v h may alone. h.lawful;
    exits = λ x s room turn who v word value after h there may.
        subst (λ (z : List ℕ × List (ℕ × ℕ)). IsCounted z.0 z.1)
        (λ i. (
          sym (ap (set s.words word) may.0 ∙ set-get_or s.words word 0) i,
          sym (set_again s.views who after may.1) i,
        )) h.lawful;
    passes = λ x s room turn who v h rest. h.lawful;
    touches = λ x s gate who v word value after h there may.
        let here = subst (λ (z : ℕ). IsAt s.views z v) may.0 h.view in
        subst (λ (z : ℕ × ℕ × (ℕ × ℕ)). IsCounted (set s.words z.0 value) (set s.views z.1 z.2))
        (λ i. (sym may.1 i, sym may.0 i, sym (may.2 v here) i))
        (set_second s.words s.views v value h.lawful here h.sized);
    last_turns = record {
      starts = λ c. refl;
      steps = λ x s room turn ins who v word value after contents h there may. inl refl;
      exits = λ x s room turn who v word value after h there may. inl refl;
      touches = λ x s gate who v word value after h there may. refl;
    };
    touch_words = record {
      touches = λ x s may. ap (λ (z : ℕ). eqb z 1) may.1;
      steps = λ x room s is may. absurd (not_one s.word may.1 is);
      exits = λ x room s is may. may.0;
    };
    slots = record {
      out = λ x s gate k h below. absurd (omega arith);
      one = λ x s gate c d u v k h at there e f. absurd (no_slot k e);
      insiders = λ x s gate c v k h at e. absurd (no_slot k e);
      moves = λ x room s v at may. tt;
      leaves = λ x v may. refl;
    };
  }
