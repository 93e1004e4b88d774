use Rattle.std.proofs.Common.{ℕ, ◌-◌, ◌<◌, length}
use Rattle.bay_store.specs.Handfuls.{HasSpilled}
use Rattle.bay_store.proofs.bays.Bay.push_some.Given as goal

-- the handfuls up to now overflowed, and some items are left
abbrev pub invariant-loop-pass : goal.invariant-loop-pass
invariant-loop-pass g l = record {
  again : ℕ;
  run : HasSpilled l.self.usage l.items l.fn.pass again l.stored l.caller;
  left : l.stored < length l.items;
}

abbrev pub decreases-loop-pass : goal.decreases-loop-pass
decreases-loop-pass g l = l.caller.limit - l.caller.draws
