use Rattle.room_gate.specs.Stepping.{stepped_to}
use Rattle.room_gate.proofs.rooms.Rooms.load.Given as goal

abbrev pub ghosts-load_as : goal.ghosts-load_as
ghosts-load_as g a =
    record { tells = stepped_to g.U.RoomUse.meaning a.self.now.usage a.word (g.M.Outcome.then a._what.now) (λ n. n) }
