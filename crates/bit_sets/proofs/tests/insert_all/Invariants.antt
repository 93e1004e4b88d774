use Rattle.std.proofs.Common.{◌≡◌, length}
use Rattle.bit_sets.proofs.tests.insert_all.Given as goal

-- the set keeps its length
abbrev pub invariant-loop-number : goal.invariant-loop-number
invariant-loop-number l = length l.set ≡ length l.fn.set
