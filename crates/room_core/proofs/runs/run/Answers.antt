use Rattle.std.proofs.Common.{◌≡◌, ◌∙◌, ◌++◌, ◌+◌, Ok, Err, sym, ap, subst, get_or, option_to_list, arith}
use Rattle.std.proofs.lemmas.List.{take_all}
use Rattle.room_core.specs.declared.acts.Act.TheVariants.{Draw}
use Rattle.room_core.specs.Apart.{IsApart}
use Rattle.room_core.specs.ExitOnce.{IsOncePerOpening}
use Rattle.room_core.specs.Order.{moments, trace_of}
use Rattle.room_core.specs.Refusals.{Refuses}
use Rattle.room_core.proofs.Chosen.{run_cyclic}
use Rattle.room_core.proofs.Running.{one_more, accepts_more}
use Rattle.room_core.proofs.Theorems.{is_apart, exits_once, admits, is_prompt}
use Rattle.room_core.proofs.runs.run.Goals as goal

pub loop-i-preserved : goal.loop-i-preserved
loop-i-preserved c =
    let next =
    one_more c.args.rooms c.args.callers c.args.acts.now c.loop-i.i c.loop-i-test.true
    c.loop-i.core c.loop-i.trace.items c.in-Ok.event c.loop-i.invariant.core
    c.loop-i.invariant.items c.in-Ok.ensures.event in
    record {
      core = c.in-Ok.ensures.state ∙ next.0;
      items =
          c.in_ok-push_item-in-Ok-2.ensures
          ∙ ap (λ x. x ++ option_to_list c.in-Ok.event.two) c.in_ok-push_item-in-Ok.ensures
          ∙ next.1;
      accepted = accepts_more c.args.rooms c.args.callers c.args.acts.now c.loop-i.i c.loop-i-test.true c.loop-i.invariant.accepted (λ why refuses.
          let a = get_or c.args.acts.now c.loop-i.i (0, Draw 0) in
          let answer : Ok c.in-Ok.event ≡ Err why = (c.in-Ok.ensures.refused why).1 (subst (λ s. Refuses s a.0 a.1 why) (sym c.loop-i.invariant.core) refuses) in cc);
    }

pub returns-in-Err-clause-refused : goal.returns-in-Err-clause-refused
returns-in-Err-clause-refused c at why e =
    let a = get_or c.args.acts.now c.loop-i.i (0, Draw 0) in
    let number : c.loop-i.i + 1 ≡ at = cc in
    let reason : c.in-Err.why ≡ why = cc in
    record {
      index = c.loop-i.i;
      number = sym number;
      there = c.loop-i-test.true;
      refused =
          subst (λ s. Refuses s a.0 a.1 why) c.loop-i.invariant.core
          ((c.in-Err.ensures.refused why).0 (ap Err reason));
      accepted = c.loop-i.invariant.accepted;
    }

pub returns-clause-accepted : goal.returns-clause-accepted
returns-clause-accepted c =
    λ i why lt. c.loop-i.invariant.accepted i why (omega (arith, lt, c.loop-i-test.false))

pub returns-clause-trace : goal.returns-clause-trace
returns-clause-trace c =
    c.loop-i.invariant.items
    ∙ ap (λ xs. trace_of (moments c.args.rooms c.args.callers xs))
    (take_all c.loop-i.i c.args.acts.now c.loop-i-test.false)

pub returns-clause-apart : goal.returns-clause-apart
returns-clause-apart c =
    subst IsApart (sym (returns-clause-trace c))
    (is_apart c.args.rooms c.args.callers c.args.acts.now c.requires.few)

pub returns-clause-exit_once : goal.returns-clause-exit_once
returns-clause-exit_once c =
    subst IsOncePerOpening (sym (returns-clause-trace c))
    (exits_once c.args.rooms c.args.callers c.args.acts.now c.requires.few)

pub returns-clause-admission : goal.returns-clause-admission
returns-clause-admission c = admits c.args.rooms c.args.callers c.args.acts.now c.requires.few

pub returns-clause-cyclic : goal.returns-clause-cyclic
returns-clause-cyclic c = run_cyclic c.args.rooms c.args.callers c.args.acts.now c.requires.few

pub returns-clause-prompt : goal.returns-clause-prompt
returns-clause-prompt c = is_prompt c.args.rooms c.args.callers c.args.acts.now c.requires.few
