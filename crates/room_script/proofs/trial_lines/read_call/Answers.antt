use Rattle.std.proofs.Common.{refl}
use Rattle.room_script.specs.declared.trials.Line.TheVariants.{Push, Enq}
use Rattle.room_script.proofs.Calls.{call_read}
use Rattle.room_script.proofs.trial_lines.read_call.Goals as goal

pub returns-in-Some : goal.returns-in-Some
returns-in-Some c = λ a.
    let is = (c.in-Some.ensures c.in-Some.item).0 refl in call_read c.args.form c.args.line.now (Push c.in-Some.item) a (is.fits, tt, is.digits)

pub returns-in-Some-number_after : goal.returns-in-Some-number_after
returns-in-Some-number_after c = λ a.
    let is = (c.in-Some-number_after.ensures c.in-Some-number_after.item).0 refl in
    call_read c.args.form c.args.line.now (Enq c.in-Some-number_after.item) a (is.fits, tt, is.digits)
