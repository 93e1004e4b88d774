use Rattle.std.proofs.Common.{◌∙◌, ℕ, ◌+◌, ◌-◌, ◌≤◌, ap, arith}
use Rattle.room_rule.specs.Use.{Own}
use Rattle.room_gate.specs.Shows.{Caller}
use Rattle.room_gate.specs.Stepping.{any, fits_with}
use Rattle.room_gate.proofs.Counting.{may_touch_it}
use Rattle.room_gate.proofs.tests.steps.touch.Goals as goal

pub touch_add-first-requires-clause-can : goal.touch_add-first-requires-clause-can
touch_add-first-requires-clause-can c =
    may_touch_it c.args.rooms.now.usage c.args.pass.now (λ n. n + 6) (fits_with 6)
    c.requires.who (let start = c.requires.start in omega arith)

pub touch_sub-second-requires-clause-can : goal.touch_sub-second-requires-clause-can
touch_sub-second-requires-clause-can c =
    let start = c.requires.start in let found = c.touch_add-first.ensures.told.0 in
    let now = ap (λ (o : Own _ (ℕ × ℕ)). o.user.1) c.touch_add-first.ensures.told.1 in
    may_touch_it c.args.rooms.now.usage c.touch_add-first.new.pass (λ n. n - 2) (λ n. 2 ≤ n)
    (ap (λ (p : Caller (ℕ × ℕ)). p.who) c.touch_add-first.ensures.same ∙ c.requires.who)
    (omega arith)

pub touch_load-requires-clause-can : goal.touch_load-requires-clause-can
touch_load-requires-clause-can c =
    may_touch_it c.args.rooms.now.usage c.touch_sub-second.new.pass (λ n. n) any
    (ap (λ (p : Caller (ℕ × ℕ)). p.who) c.touch_sub-second.ensures.same
    ∙ ap (λ (p : Caller (ℕ × ℕ)). p.who) c.touch_add-first.ensures.same ∙ c.requires.who) tt
