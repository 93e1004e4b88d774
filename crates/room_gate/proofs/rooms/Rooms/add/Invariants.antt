use Rattle.std.proofs.Common.{◌+◌}
use Rattle.room_gate.specs.Stepping.{stepped_to}
use Rattle.room_gate.proofs.rooms.Rooms.add.Given as goal

abbrev pub ghosts-add_as : goal.ghosts-add_as
ghosts-add_as g a =
    record { tells = stepped_to g.U.RoomUse.meaning a.self.now.usage a.word (g.M.Outcome.then a._what.now) (λ n. n + a.by) }
