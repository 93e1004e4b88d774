use Rattle.std.proofs.Common.{◌≡◌}
use Rattle.bay_crew.specs.Mixes.{script_of}
use Rattle.bay_crew.proofs.scripts.script.Given as goal

abbrev pub invariant-loop-k : goal.invariant-loop-k
invariant-loop-k l = l.lines.items ≡ script_of l.mix l.k l.who
