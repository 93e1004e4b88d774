use Rattle.std.proofs.Common.{◌+◌, ◌%◌, ◌^◌, mod-eq_of_lt}
use Rattle.room_gate.specs.Stepping.{fits_with}
use Rattle.room_gate.proofs.UserWords.{touches_to}
use Rattle.room_gate.proofs.rooms.Rooms.touch_add.Goals as goal

pub add_as-requires-clause-step : goal.add_as-requires-clause-step
add_as-requires-clause-step g c =
    touches_to g.U.RoomUse.meaning g.U.RoomUse.ROOMS g.met.U.RoomUse.laws c.args.self.now c.args.word c.requires.word
    (g.M.Outcome.then c.args.what.now) c.pass.inside c.pass.invariant c.args.pass.now c.pass.view_is
    (λ n. (n + c.args.by) % 2 ^ 64) (λ n. n + c.args.by) (fits_with c.args.by) c.requires.can (λ n _ h. mod-eq_of_lt h)
