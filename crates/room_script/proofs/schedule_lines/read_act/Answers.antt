use Rattle.room_script.proofs.Acts.{step_read}
use Rattle.room_script.proofs.schedule_lines.read_act.Goals as goal

pub returns-in-Some-number_after : goal.returns-in-Some-number_after
returns-in-Some-number_after c = step_read c.args.line.now c.in-Some-number_after.caller c.in-Some-number_after.ensures
