use Rattle.std.proofs.Common.{◌*◌}
use Rattle.bay_crew.specs.Timings.{Repeats}
use Rattle.bay_crew.specs.Handfuls.{draws_in, calls_in}
use Rattle.bay_crew.proofs.handfuls.turns.Given as goal

abbrev pub invariant-loop-round : goal.invariant-loop-round
invariant-loop-round g l = Repeats l.bay.usage.layout (l._round * draws_in l.turn) (l._round * calls_in l.turn) l.fn.pass l.pass l.made
