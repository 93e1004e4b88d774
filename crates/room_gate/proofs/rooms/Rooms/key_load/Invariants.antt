use Rattle.room_gate.specs.Stepping.{key_loaded}
use Rattle.room_gate.proofs.rooms.Rooms.key_load.Given as goal

abbrev pub ghosts-load_as : goal.ghosts-load_as
ghosts-load_as g a =
    record { tells = key_loaded g.U.RoomUse.meaning a.self.now.usage a.word (g.M.Outcome.then a._what.now) }
