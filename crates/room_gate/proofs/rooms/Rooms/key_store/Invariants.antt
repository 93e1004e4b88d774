use Rattle.room_gate.specs.Stepping.{key_stored}
use Rattle.room_gate.proofs.rooms.Rooms.key_store.Given as goal

abbrev pub ghosts-store_as : goal.ghosts-store_as
ghosts-store_as g a =
    record { tells = key_stored g.U.RoomUse.meaning a.self.now.usage a.word (g.M.Outcome.then a._what.now) }
