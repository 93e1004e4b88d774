use Rattle.std.proofs.Common.{refl}
use Rattle.room_gate.specs.Stepping.{any}
use Rattle.room_gate.proofs.UserWords.{steps_to}
use Rattle.room_gate.proofs.rooms.Rooms.load.Goals as goal

pub load_as-requires-clause-step : goal.load_as-requires-clause-step
load_as-requires-clause-step g c =
    steps_to g.U.RoomUse.meaning g.U.RoomUse.ROOMS g.met.U.RoomUse.laws c.args.self.now c.args.word c.requires.word
    (g.M.Outcome.then c.args.what.now) c.inside.inside c.inside.invariant c.args.inside.now c.inside.view_is
    (λ n. n) (λ n. n) any c.requires.can (λ n _ _. refl)
