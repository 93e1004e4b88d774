use Rattle.room_script.specs.Trials.{IsTrial}
use Rattle.room_script.proofs.Fronts.{never_both, same_line}
use Rattle.room_script.proofs.Outlines.{outline_same}
use Rattle.room_script.proofs.TrialsJudged.{either_trial}
use Rattle.room_script.proofs.laws.each_trial_is_judged.Goals as goal

pub returns : goal.returns
returns c = record { either = either_trial; never_both = never_both IsTrial; one_trial = outline_same; one_line = same_line IsTrial }
