use Rattle.room_core.proofs.Reached.{reached_sized, reached_small}
use Rattle.room_core.proofs.machine.Core.bounds.Goals as goal

pub returns : goal.returns
returns c = record {
  sized = rw (← c.self.view_is) (reached_sized _ c.self.invariant);
  small = rw (← c.self.view_is) (reached_small _ c.self.invariant);
}
