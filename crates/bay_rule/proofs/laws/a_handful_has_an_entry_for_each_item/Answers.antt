use Rattle.bay_rule.proofs.Entries.{entries_some}
use Rattle.bay_rule.proofs.laws.a_handful_has_an_entry_for_each_item.Goals as goal

pub returns : goal.returns
returns c turn rank who stored refused h = entries_some turn who rank stored refused h
