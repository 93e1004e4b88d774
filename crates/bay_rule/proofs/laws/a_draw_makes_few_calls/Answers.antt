use Rattle.bay_rule.proofs.Draws.{few_calls}
use Rattle.bay_rule.proofs.laws.a_draw_makes_few_calls.Goals as goal

pub returns : goal.returns
returns c = few_calls
