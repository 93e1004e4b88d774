use Rattle.room_gate.specs.Stepping.{stored}
use Rattle.room_gate.proofs.rooms.Rooms.store.Given as goal

abbrev pub ghosts-store_as : goal.ghosts-store_as
ghosts-store_as g a =
    record { tells = stored g.U.RoomUse.meaning a.self.now.usage a.word (g.M.Outcome.then a._what.now) }
