use Rattle.std.proofs.Common.{map, take}
use Rattle.room_script.specs.Lines.{bytes_at}
use Rattle.room_script.specs.Schedules.{Spells}
use Rattle.room_script.proofs.schedules.read_schedule.Given as goal

abbrev pub invariant-loop-i : goal.invariant-loop-i
invariant-loop-i l = Spells (take l.i (map (bytes_at l.text) l.lines.items)) (record { rooms = l.rooms; callers = l.callers; acts = l.acts.items })
