use Rattle.bay_rule.proofs.Counts.{counts_few}
use Rattle.bay_rule.proofs.laws.counts_stay_below_2_58.Goals as goal

pub returns : goal.returns
returns c = counts_few
