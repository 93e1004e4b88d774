use Rattle.std.proofs.Common.{◌*◌}
use Rattle.bay_crew.specs.Timings.{Repeats}
use Rattle.bay_crew.proofs.timings.rounds.Given as goal

abbrev pub invariant-loop-round : goal.invariant-loop-round
invariant-loop-round g l = Repeats l.bay.usage.layout (l.round * (2 * l.run)) (l.round * (2 * l.run)) l.fn.pass l.pass l.made
