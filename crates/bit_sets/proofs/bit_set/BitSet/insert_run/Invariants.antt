use Rattle.std.proofs.Common.{◌≡◌, ◌-◌, ◌≤◌}
use Rattle.bit_sets.specs.Run.{with_run}
use Rattle.bit_sets.proofs.bit_set.BitSet.insert_run.Given as goal

-- the numbers up to this one are put in
abbrev pub invariant-loop-at : goal.invariant-loop-at
invariant-loop-at l = record {
  above : l.from ≤ l.at;
  within : l.at ≤ l.end;
  set : l.self ≡ with_run l.fn.self l.from l.at;
}

abbrev pub decreases-loop-at : goal.decreases-loop-at
decreases-loop-at l = l.end - l.at
