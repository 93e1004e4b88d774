use Rattle.std.proofs.Common.{◌∙◌, ℕ, ◌+◌, ◌-◌, ◌≤◌, ap, arith}
use Rattle.room_rule.specs.Use.{Own}
use Rattle.room_gate.specs.Shows.{Insider}
use Rattle.room_gate.specs.Stepping.{any, fits_with}
use Rattle.room_gate.proofs.Counting.{may_count}
use Rattle.room_gate.proofs.tests.steps.count.Goals as goal

pub store-requires-clause-can : goal.store-requires-clause-can
store-requires-clause-can c =
    may_count c.args.rooms.now.usage c.args.inside.now (λ n. 5) any c.requires.who tt

pub add-first-requires-clause-can : goal.add-first-requires-clause-can
add-first-requires-clause-can c =
    let now = ap (λ (o : Own _ (ℕ × ℕ)). o.user.0) c.store.ensures.told.1.1 in
    may_count c.args.rooms.now.usage c.store.new.inside (λ n. n + 2) (fits_with 2)
    (ap (λ (i : Insider _ (ℕ × ℕ)). i.caller.who) c.store.ensures.same ∙ c.requires.who)
    (omega arith)

pub sub-second-requires-clause-can : goal.sub-second-requires-clause-can
sub-second-requires-clause-can c =
    let before = ap (λ (o : Own _ (ℕ × ℕ)). o.user.0) c.store.ensures.told.1.1 in
    let found = c.add-first.ensures.told.0 in
    let now = ap (λ (o : Own _ (ℕ × ℕ)). o.user.0) c.add-first.ensures.told.1 in
    may_count c.args.rooms.now.usage c.add-first.new.inside (λ n. n - 3) (λ n. 3 ≤ n)
    (ap (λ (i : Insider _ (ℕ × ℕ)). i.caller.who) c.add-first.ensures.same
    ∙ ap (λ (i : Insider _ (ℕ × ℕ)). i.caller.who) c.store.ensures.same ∙ c.requires.who)
    (omega arith)

pub load-requires-clause-can : goal.load-requires-clause-can
load-requires-clause-can c =
    may_count c.args.rooms.now.usage c.sub-second.new.inside (λ n. n) any
    (ap (λ (i : Insider _ (ℕ × ℕ)). i.caller.who) c.sub-second.ensures.same
    ∙ ap (λ (i : Insider _ (ℕ × ℕ)). i.caller.who) c.add-first.ensures.same
    ∙ ap (λ (i : Insider _ (ℕ × ℕ)). i.caller.who) c.store.ensures.same ∙ c.requires.who) tt
