use Rattle.room_core.proofs.Reached.{run_bounded}
use Rattle.room_core.proofs.laws.every_run_is_bounded.Goals as goal

pub returns : goal.returns
returns c = λ rooms callers acts few crowd. run_bounded rooms callers acts few crowd
