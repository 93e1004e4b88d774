use Rattle.room_core.proofs.Theorems.{exits_once}
use Rattle.room_core.proofs.laws.every_run_exits_once.Goals as goal

pub returns : goal.returns
returns c = λ rooms callers acts few. exits_once rooms callers acts few
