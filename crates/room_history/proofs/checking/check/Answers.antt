use Rattle.std.proofs.Common.{◌≡◌, Err, ap, subst}
use Rattle.room_history.specs.declared.checking.CheckFault.TheVariants.{Order}
use Rattle.room_history.specs.Order.{IsFirstDisorder}
use Rattle.room_history.proofs.Disorders.{never_ordered, one_disorder}
use Rattle.room_history.proofs.checking.check.Goals as goal

pub returns-in-Some-clause-order : goal.returns-in-Some-clause-order
returns-in-Some-clause-order c = λ i. (
  λ e. let is : c.in-Some.i ≡ i = cc in subst (IsFirstDisorder c.args.entries.now) is c.in-Some.ensures,
  λ other. ap (λ j. Err (Order j)) (one_disorder c.args.entries.now c.in-Some.i i c.in-Some.ensures other),
)

pub returns-in-Ok-clause-order : goal.returns-in-Ok-clause-order
returns-in-Ok-clause-order c = λ i. (λ e. cc, λ other. absurd (never_ordered c.args.entries.now i c.in_default.ensures other))

pub returns-in-Err-At-clause-order : goal.returns-in-Err-At-clause-order
returns-in-Err-At-clause-order c = λ i. (λ e. cc, λ other. absurd (never_ordered c.args.entries.now i c.in_default.ensures other))

pub returns-in-Err-Memory-clause-order : goal.returns-in-Err-Memory-clause-order
returns-in-Err-Memory-clause-order c = λ i. (λ e. cc, λ other. absurd (never_ordered c.args.entries.now i c.in_default.ensures other))

pub returns-in-Ok-clause-unlawful : goal.returns-in-Ok-clause-unlawful
returns-in-Ok-clause-unlawful c = λ i no_want. (λ e. cc, λ both. let e = (c.in-Ok.ensures.at i (λ want. cc)).1 both.1 in cc)

pub returns-in-Err-At-clause-unlawful : goal.returns-in-Err-At-clause-unlawful
returns-in-Err-At-clause-unlawful c = λ j no_want.
    let at = c.in-Err-At.ensures.at j in
    let found = rw c.in-Err-At.field-0-is at at in (
      λ e. (c.in_default.ensures, let is : c.in-Err-At.i ≡ j = cc in (found (λ want. cc)).0 (cc)),
      λ both. let e = (found (λ want. cc)).1 both.1 in cc,
    )
