-- A stay, from its parts.
use Rattle.std.proofs.Common.{◌≡◌, ℕ, ◌+◌, ◌<◌, sym, ap, ◌∙◌, arith}
use Rattle.room_gate.specs.Shows.{Caller, Insider}
use Rattle.room_gate.specs.GoingIn.{GoesIn}
use Rattle.stay_tally.specs.declared.uses.Stays.{Stays}
use Rattle.stay_tally.specs.Tally.{counts}
use Rattle.stay_tally.specs.Staying.{HasCounted_inside, HasCounted}

abbrev I : Type 0
I = Insider (Unit {0}) Stays

-- entering, counting and leaving
pub stay_counted : (room : ℕ) (before after : Caller Stays) (i j : I) → GoesIn before room i
    → i.caller.user.last < i.opening.turn → HasCounted_inside i j
    → after ≡ record j.caller { done = after.done; seen = after.seen }
    → HasCounted room before after
stay_counted room before after i j goes later count out =
    let turn = i.opening.turn in
    let user = ap (λ (z : Caller Stays). z.user) goes.caller in
    let inside = ap (λ (z : I). z.caller) count in
    let first : i.caller.first ≡ after.first =
    sym (ap (λ (z : Caller Stays). z.first) (out ∙ (λ k. record (inside k) { done = after.done; seen = after.seen }))) in
    let loads : i.caller.loads ≡ after.loads =
    sym (ap (λ (z : Caller Stays). z.loads) (out ∙ (λ k. record (inside k) { done = after.done; seen = after.seen }))) in (
      turn,
      (let low = ap (λ (z : Stays). z.last) user in omega arith),
      out ∙ ((λ k. record (inside k) { done = after.done; seen = after.seen })
          ∙ ((λ k. record (goes.caller k) {
            user = counts (goes.inside k) turn (user k);
            done = after.done;
            seen = after.seen;
          }) ∙ (λ k. record before {
            draws = before.draws + 1;
            user = counts room turn before.user;
            seen = after.seen;
            first = first k;
            loads = loads k;
            done = after.done;
          }))),
    )
