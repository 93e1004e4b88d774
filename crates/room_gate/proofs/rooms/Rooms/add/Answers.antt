use Rattle.std.proofs.Common.{◌+◌, ◌%◌, ◌^◌, mod-eq_of_lt}
use Rattle.room_gate.specs.Stepping.{fits_with}
use Rattle.room_gate.proofs.UserWords.{steps_to}
use Rattle.room_gate.proofs.rooms.Rooms.add.Goals as goal

pub add_as-requires-clause-step : goal.add_as-requires-clause-step
add_as-requires-clause-step g c =
    steps_to g.U.RoomUse.meaning g.U.RoomUse.ROOMS g.met.U.RoomUse.laws c.args.self.now c.args.word c.requires.word
    (g.M.Outcome.then c.args.what.now) c.inside.inside c.inside.invariant c.args.inside.now c.inside.view_is
    (λ n. (n + c.args.by) % 2 ^ 64) (λ n. n + c.args.by) (fits_with c.args.by) c.requires.can (λ n _ h. mod-eq_of_lt h)
