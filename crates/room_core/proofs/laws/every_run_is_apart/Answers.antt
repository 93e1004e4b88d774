use Rattle.room_core.proofs.Theorems.{is_apart}
use Rattle.room_core.proofs.laws.every_run_is_apart.Goals as goal

pub returns : goal.returns
returns c = λ rooms callers acts few. is_apart rooms callers acts few
