use Rattle.std.proofs.Common.{◌≡◌, length}
use Rattle.work_crew.specs.Crews.{AreNew}
use Rattle.halving.proofs.works.works_of.Given as goal

abbrev pub invariant-loop-worker : goal.invariant-loop-worker
invariant-loop-worker l = record {
  many : length l.works.items ≡ l.worker;
  new : AreNew l.works.items;
}
