use Rattle.std.proofs.Common.{◌+◌, ◌-◌, ◌%◌, ◌^◌, ◌≤◌}
use Rattle.room_gate.proofs.UserWords.{steps_to, taken}
use Rattle.room_gate.proofs.rooms.Rooms.sub.Goals as goal

pub sub_as-requires-clause-step : goal.sub_as-requires-clause-step
sub_as-requires-clause-step g c =
    steps_to g.U.RoomUse.meaning g.U.RoomUse.ROOMS g.met.U.RoomUse.laws c.args.self.now c.args.word c.requires.word
    (g.M.Outcome.then c.args.what.now) c.inside.inside c.inside.invariant c.args.inside.now c.inside.view_is
    (λ n. (n + (2 ^ 64 - c.args.by)) % 2 ^ 64) (λ n. n - c.args.by) (λ n. c.args.by ≤ n) c.requires.can (λ n small low. taken n c.args.by small low)
