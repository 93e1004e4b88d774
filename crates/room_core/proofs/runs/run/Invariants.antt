use Rattle.std.proofs.Common.{◌≡◌, take}
use Rattle.room_core.specs.Runs.{run, start}
use Rattle.room_core.specs.Schedule.{AcceptsFirst}
use Rattle.room_core.specs.Order.{moments, trace_of}
use Rattle.room_core.proofs.runs.run.Given as goal

-- the core and the trace are those of the acts so far, each of which was accepted
abbrev pub invariant-loop-i : goal.invariant-loop-i
invariant-loop-i l = record {
  core : l.core ≡ (run (take l.i l.acts) (start l.rooms l.callers)).state;
  items : l.trace.items ≡ trace_of (moments l.rooms l.callers (take l.i l.acts));
  accepted : AcceptsFirst l.rooms l.callers l.acts l.i;
}
