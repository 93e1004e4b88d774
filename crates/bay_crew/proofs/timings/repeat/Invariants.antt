use Rattle.bay_crew.specs.Timings.{Repeats}
use Rattle.bay_crew.proofs.timings.repeat.Given as goal

abbrev pub invariant-loop-item : goal.invariant-loop-item
invariant-loop-item g l = Repeats l.bay.usage.layout l.item l.item l.fn.pass l.pass l.made
