use Rattle.room_core.proofs.Chosen.{run_cyclic}
use Rattle.room_core.proofs.laws.every_run_is_cyclic.Goals as goal

pub returns : goal.returns
returns c = λ rooms callers acts few. run_cyclic rooms callers acts few
