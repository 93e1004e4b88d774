use Rattle.room_core.proofs.Whole.{run_due}
use Rattle.room_core.proofs.Firsts.{inside_looked}
use Rattle.room_core.proofs.laws.nobody_is_passed.Goals as goal

pub returns : goal.returns
returns c = record {
  looked = λ rooms callers acts c room ticket turn to first e.
      inside_looked rooms callers acts c room ticket turn to first e;
  passed = λ rooms callers acts few. run_due rooms callers acts few;
}
