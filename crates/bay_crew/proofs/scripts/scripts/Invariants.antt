use Rattle.std.proofs.Common.{◌≡◌, map, length}
use Rattle.bay_crew.specs.Mixes.{scripts_of}
use Rattle.bay_crew.proofs.scripts.scripts.Given as goal

abbrev pub invariant-loop-who : goal.invariant-loop-who
invariant-loop-who l = record {
  len : length l.scripts.items ≡ l.who;
  each : map (λ script. script.items) l.scripts.items ≡ scripts_of l.mix l.who l.calls;
}
