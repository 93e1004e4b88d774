use Rattle.room_script.specs.Schedules.{IsSchedule}
use Rattle.room_script.proofs.Fronts.{never_both, same_line}
use Rattle.room_script.proofs.Plans.{plan_same}
use Rattle.room_script.proofs.Judged.{either}
use Rattle.room_script.proofs.laws.each_text_is_judged.Goals as goal

pub returns : goal.returns
returns c = record { either = either; never_both = never_both IsSchedule; one_schedule = plan_same; one_line = same_line IsSchedule }
