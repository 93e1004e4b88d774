use Rattle.room_gate.specs.Stepping.{touched_to}
use Rattle.room_gate.proofs.rooms.Rooms.touch_load.Given as goal

abbrev pub ghosts-load_as : goal.ghosts-load_as
ghosts-load_as g a =
    record { tells = touched_to g.U.RoomUse.meaning a.self.now.usage a.word (g.M.Outcome.then a._what.now) (λ n. n) }
