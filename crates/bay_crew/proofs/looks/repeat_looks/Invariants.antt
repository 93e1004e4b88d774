use Rattle.bay_crew.specs.Timings.{Repeats}
use Rattle.bay_crew.proofs.looks.repeat_looks.Given as goal

abbrev pub invariant-loop-k : goal.invariant-loop-k
invariant-loop-k g l = Repeats l.bay.usage.layout l.k l.k l.fn.pass l.pass l.made
