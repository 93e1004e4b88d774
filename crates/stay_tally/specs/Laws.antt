-- The laws of the tally.
use Rattle.std.specs.Prelude.{◌≡◌, ℕ, zero, suc, ◌+◌, ◌^◌, ◌<◌, ◌≤◌, ◌⊎◌, ◌≢◌, true, false, Some, None, List, [], ◌∷◌, length, slice_index, slice_set}
use Rattle.std.proofs.Common.{refl, sym, ap, ◌∙◌, subst, inl, inr, ⊎_elim, arith, length-set, get_or-set_same}
use Rattle.std.proofs.lemmas.Bool.{cases_eq}
use Rattle.std.proofs.lemmas.List.{get_or-set_other}
use mathlib.Core.Option.{some-injective}
use Rattle.room_rule.specs.Use.{IsAt, Content}
use Rattle.room_rule.specs.Callers.{at_below, one_view, after_step, sum_after, sum_within}
use Rattle.room_rule.specs.Laws.{Laws, Starts, Steps}
use Rattle.stay_tally.specs.declared.uses.Stays.{Stays}
use Rattle.stay_tally.specs.Tally.{counted_in, IsCapped, Tallies, counts, newcomer, tallied}

-- a newcomer counted nothing
not_true : false ≡ true → ⊥
not_true e = cc

none_kept : {k : ℕ} → None ≡ Some k → ⊥
none_kept e = cc

-- who has counted no stay counted none in any room
pub none_counted : (r : ℕ) → r < 4 → counted_in r newcomer ≡ 0
none_counted zero h = refl
none_counted (suc zero) h = refl
none_counted (suc (suc zero)) h = refl
none_counted (suc (suc (suc zero))) h = refl
none_counted (suc (suc (suc (suc r)))) h = absurd (omega arith)

capped_newcomer : IsCapped newcomer
capped_newcomer = record {
  wide = refl;
  capped = λ r h. let is = none_counted r h in omega arith;
  small = omega arith;
}

-- an empty list
nil_of : {A : Type 0} (l : List A) → length l ≡ 0 → l ≡ []
nil_of [] h = refl
nil_of (x ∷ xs) h = absurd (omega arith)

starts : Starts tallied
starts x callers s few wide each long no_slot home all =
    let is_new : (c : ℕ) (v : Stays) → IsAt s.views c v → v ≡ newcomer = λ c v e.
    one_view s.views c v newcomer e (all c (let there = at_below s.views c v e in omega arith)) in
    record {
      wide = wide;
      few = omega arith;
      sums = λ r h.
          let none = sum_within (counted_in r) 0 s.views (λ c v e.
          let same = ap (counted_in r) (is_new c v e) in let zero = none_counted r h in omega arith) in
          let word = each r h in omega arith;
      each = λ c v e. subst IsCapped (sym (is_new c v e)) capped_newcomer;
      bare = nil_of s.slots no_slot;
    }

-- what a stay in room r changes of what is counted in room q
pub counted_now : (v : Stays) (q r t : ℕ) → length v.counted ≡ 4 → r < 4 → q < 4
    → ((q ≡ r) × (counted_in q (counts r t v) ≡ counted_in q v + 1))
    ⊎ ((q ≢ r) × (counted_in q (counts r t v) ≡ counted_in q v))
counted_now v q r t wide r_is q_is = elim (cases_eq q r) [
  | inl same ↦ inl (
    same,
    ap (λ (z : ℕ). slice_index (slice_set v.counted r (counted_in r v + 1)) z) same
        ∙ (get_or-set_same v.counted r (counted_in r v + 1) 0 (omega arith)
        ∙ ap (λ (z : ℕ). counted_in z v + 1) (sym same)),
  )
  | inr ne ↦ inr (ne, get_or-set_other v.counted r q (counted_in r v + 1) 0 ne)
]

capped_after : (v : Stays) (r t : ℕ) → IsCapped v → r < 4 → v.last < t → t ≤ 2 ^ 54
    → IsCapped (counts r t v)
capped_after v r t is r_is later small = record {
  wide = length-set v.counted r (counted_in r v + 1) ∙ is.wide;
  capped = λ q h. let cap = is.capped q h in ⊎_elim
      (λ (o : (q ≡ r) × (counted_in q (counts r t v) ≡ counted_in q v + 1)).
      let now = o.1 in omega arith)
      (λ (o : (q ≢ r) × (counted_in q (counts r t v) ≡ counted_in q v)).
      let now = o.1 in omega arith)
      (counted_now v q r t is.wide r_is h);
  small = small;
}

-- the content after a stay in room r was counted
tallies_after : (s : Content (Unit {0}) Stays) (who r t : ℕ) (v : Stays) → Tallies s
    → IsAt s.views who v → r < 4 → v.last < t → t ≤ 2 ^ 54
    → Tallies (record {
      words = slice_set s.words r (slice_index s.words r + 1);
      slots = s.slots;
      views = slice_set s.views who (counts r t v);
    })
tallies_after s who r t v h at r_is later small =
    let mine = h.each who v at in let wide = h.wide in let after = counts r t v in record {
      wide = length-set s.words r (slice_index s.words r + 1) ∙ wide;
      few = (let same = length-set s.views who after in let few = h.few in omega arith);
      sums = λ q q_is.
          let sum = h.sums q q_is in let more = sum_after (counted_in q) s.views who v after at in
          ⊎_elim
          (λ (o : (q ≡ r) × (counted_in q after ≡ counted_in q v + 1)).
          let word = ap (λ (z : ℕ). slice_index (slice_set s.words r (slice_index s.words r + 1)) z) o.0
          ∙ (get_or-set_same s.words r (slice_index s.words r + 1) 0 (omega arith)
          ∙ ap (λ (z : ℕ). slice_index s.words z + 1) (sym o.0)) in
          let now = o.1 in omega arith)
          (λ (o : (q ≢ r) × (counted_in q after ≡ counted_in q v)).
          let word = get_or-set_other s.words r q (slice_index s.words r + 1) 0 o.0 in
          let now = o.1 in omega arith)
          (counted_now v q r t mine.wide r_is q_is);
      each = after_step (λ c. IsCapped) s.views who after
          (capped_after v r t mine r_is later small) (λ c u ne e. h.each c u e);
      bare = h.bare;
    }

steps : Steps tallied
steps x s room turn ins who v word value after contents h there may =
    let same : may.view ≡ v = some-injective may.view v (sym may.at ∙ h.view) in
    let is : room ≡ word = sym may.word in
    let r_is : room < 4 = (let e = may.word in omega arith) in
    let t_is : turn ≡ may.turn = may.held in
    let later : v.last < turn = (let l = may.later in let e = ap (λ (z : Stays). z.last) same in omega arith) in
    let small : turn ≤ 2 ^ 54 = (let l = may.small in omega arith) in
    let value : slice_index s.words room + 1 ≡ value = sym may.value in
    let view : counts room turn v ≡ after =
    (λ i. counts room (t_is i) (sym same i)) ∙ sym may.after in
    subst (λ (z : ℕ × (ℕ × Stays)). Tallies (record {
      words = slice_set s.words z.0 z.1.0;
      slots = s.slots;
      views = slice_set s.views who z.1.1;
    })) (λ i. (is i, (value i, view i)))
    (tallies_after s who room turn v h.lawful h.view r_is later small)

-- the meaning fits together
pub tallied_laws : Laws tallied
tallied_laws = record {
  starts = starts;
  opens = λ x s turn room h. h;
  enters = λ x s room turn ins who v h at may low. h;
  steps = steps;
  leaves = λ x s room turn ins who v h may. h.lawful;
  leaves_last = λ x s room turn ins who v h may alone. h.lawful;
  exits = λ x s room turn who v word value after h there may. absurd may;
  passes = λ x s room turn who v h rest. h.lawful;
  touches = λ x s gate who v word value after h there may. absurd may;
  last_turns = record {
    starts = λ c. refl;
    steps = λ x s room turn ins who v word value after contents h there may.
        inr (ap (λ (z : Stays). z.last) may.after ∙ sym may.held);
    exits = λ x s room turn who v word value after h there may. absurd may;
    touches = λ x s gate who v word value after h there may. absurd may;
  };
  touch_words = record {
    touches = λ x s may. absurd may;
    steps = λ x room s is may. absurd (not_true is);
    exits = λ x room s is may. absurd may;
  };
  slots = record {
    out = λ x s gate k h under. absurd (omega arith);
    one = λ x s gate c d u v k h at there mine its. absurd (none_kept mine);
    insiders = λ x s gate c v k h at mine. absurd (none_kept mine);
    moves = λ x room s v at may. tt;
    leaves = λ x v may. refl;
  };
}
