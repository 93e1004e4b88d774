use Rattle.room_core.proofs.Theorems.{admits}
use Rattle.room_core.proofs.laws.every_run_admits_in_order.Goals as goal

pub returns : goal.returns
returns c = λ rooms callers acts few. admits rooms callers acts few
