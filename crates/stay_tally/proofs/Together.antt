-- What a crew's stays count, from one stay to all.
use Rattle.std.proofs.Common.{◌≡◌, ℕ, zero, suc, ◌+◌, ◌<◌, ◌≤◌, Bool, true, false, List, [], ◌∷◌, ◌++◌, length, length-set, sym, ap, ◌∙◌, ⊎_elim, arith}
use Rattle.std.specs.Prelude.{◌==◌, ◌≢◌}
use mathlib.Core.Bool.{cond}
use Rattle.std.specs.List.{range_with_len, count_by}
use Rattle.std.proofs.lemmas.Bool.{eq-eqb, ne_eqb}
use Rattle.room_core.proofs.Order.{count-push}
use Rattle.room_gate.specs.Shows.{Caller}
use Rattle.stay_tally.specs.declared.uses.Stays.{Stays}
use Rattle.stay_tally.specs.Tally.{counted_in, counts}
use Rattle.stay_tally.specs.Laws.{counted_now}
use Rattle.stay_tally.specs.Staying.{HasCounted, Answers}
use Rattle.stay_tally.specs.Crews.{room_of, stays_in, HasStayed}

-- one number more
range_more : (a n j : ℕ) → a + n ≡ j → range_with_len a (suc n) ≡ range_with_len a n ++ j ∷ []
range_more a zero j e = let same : a ≡ j = omega arith in ap (λ (k : ℕ). k ∷ []) same
range_more a (suc n) j e = ap (λ (l : List ℕ). a ∷ l) (range_more (a + 1) n j (omega arith))

-- one stay more
stays_more : (spread : Bool) (from k r : ℕ)
    → stays_in spread from (k + 1) r ≡ stays_in spread from k r + cond (room_of spread from k == r) 1 0
stays_more spread from k r =
    let next : k + 1 ≡ suc k = omega arith in
    let is = λ (i : ℕ). room_of spread from i == r in
    ap (λ (n : ℕ). count_by is (range_with_len 0 n)) next
    ∙ ap (count_by is) (range_more 0 k k (omega arith))
    ∙ count-push is (range_with_len 0 k) k

-- what one stay adds
one_counted : (v : Stays) (q r t : ℕ) → length v.counted ≡ 4 → r < 4 → q < 4
    → counted_in q (counts r t v) ≡ counted_in q v + cond (r == q) 1 0
one_counted v q r t wide r_is q_is = ⊎_elim
    (λ (o : (q ≡ r) × (counted_in q (counts r t v) ≡ counted_in q v + 1)).
    o.1 ∙ ap (λ (b : Bool). counted_in q v + cond b 1 0) (sym (eq-eqb r q (sym o.0))))
    (λ (o : (q ≢ r) × (counted_in q (counts r t v) ≡ counted_in q v)).
    let same : counted_in q v ≡ counted_in q v + 0 = omega arith in
    o.1 ∙ same ∙ ap (λ (b : Bool). counted_in q v + cond b 1 0) (sym (ne_eqb r q (λ e. o.0 (sym e)))))
    (counted_now v q r t wide r_is q_is)

-- no stay yet
pub not_stayed : (spread : Bool) (from : ℕ) (before : Caller Stays) → HasStayed spread from 0 before before
not_stayed spread from before = record {
  same = let none : before.draws ≡ before.draws + 0 = omega arith in λ i. record before { draws = none i };
  counted = λ r h. omega arith;
}

-- one stay more
pub stayed_more : (spread : Bool) (from k room : ℕ) (before mid after : Caller Stays)
    → length mid.user.counted ≡ 4 → room ≡ room_of spread from k → room < 4
    → HasStayed spread from k before mid → HasCounted room mid after
    → HasStayed spread from (k + 1) before after × (length after.user.counted ≡ 4)
stayed_more spread from k room before mid after wide is exists so_far now =
    let turn = now.0 in
    let user : after.user ≡ counts room turn mid.user = ap (λ (z : Caller Stays). z.user) now.2 in (
      record {
        same = now.2 ∙ ((λ i. record (so_far.same i) {
          draws = (so_far.same i).draws + 1;
          user = sym user i;
          seen = after.seen;
          first = after.first;
          loads = after.loads;
          done = after.done;
        }) ∙ (let sum : before.draws + k + 1 ≡ before.draws + (k + 1) = omega arith in λ i. record before {
          draws = sum i;
          user = after.user;
          seen = after.seen;
          first = after.first;
          loads = after.loads;
          done = after.done;
        }));
        counted = λ r h.
            let old = so_far.counted r h in
            let one = one_counted mid.user r room turn wide exists h in
            let new = ap (λ (z : Stays). counted_in r z) user in
            let more = stays_more spread from k r in
            let which = ap (λ (z : ℕ). cond {A = ℕ} (z == r) 1 0) is in
            omega arith;
      },
      ap (λ (z : Stays). length z.counted) user
          ∙ length-set mid.user.counted room (counted_in room mid.user + 1) ∙ wide,
    )

-- a stay by a pass with a draw left is counted
pub answered : (room : ℕ) (before after : Caller Stays) (b : Bool) → Answers room before after b
    → before.draws < before.limit → HasCounted room before after
answered room before after true a few = a.1
answered room before after false a few = absurd (let e = a.0 in omega arith)

-- a pass that made less stays than it had draws has a draw left
pub draw_left : (spread : Bool) (from k rounds : ℕ) (before mid : Caller Stays)
    → HasStayed spread from k before mid → k < rounds → before.draws + rounds ≤ before.limit
    → mid.draws < mid.limit
draw_left spread from k rounds before mid so_far more few =
    let draws = ap (λ (z : Caller Stays). z.draws) so_far.same in
    let limit = ap (λ (z : Caller Stays). z.limit) so_far.same in
    omega arith
