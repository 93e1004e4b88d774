use Rattle.room_core.proofs.Theorems.{is_prompt}
use Rattle.room_core.proofs.laws.every_run_is_prompt.Goals as goal

pub returns : goal.returns
returns c = λ rooms callers acts few. is_prompt rooms callers acts few
