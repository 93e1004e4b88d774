use Rattle.std.proofs.Common.{◌≡◌, ◌≤◌}
use Rattle.room_trial.proofs.Answering.{SoFar}
use Rattle.room_trial.proofs.callers.answered.Given as goal

abbrev pub invariant-loop-i : goal.invariant-loop-i
invariant-loop-i g l = record {
  so_far : SoFar l.bay.usage l.lines l.i l.fn.pass l.pass l.entries.items;
  own : l.pass.site ≡ l.bay.site;
  share : 1 ≤ l.pass.user.held;
}
