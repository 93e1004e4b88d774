use Rattle.std.proofs.Common.{◌-◌}
use Rattle.room_gate.specs.Stepping.{touched_to}
use Rattle.room_gate.proofs.rooms.Rooms.touch_sub.Given as goal

abbrev pub ghosts-sub_as : goal.ghosts-sub_as
ghosts-sub_as g a =
    record { tells = touched_to g.U.RoomUse.meaning a.self.now.usage a.word (g.M.Outcome.then a._what.now) (λ n. n - a.by) }
