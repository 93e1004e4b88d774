use Rattle.std.proofs.Common.{refl, get_or}
use Rattle.room_rule.proofs.UserSteps.{shows_same}
use Rattle.room_gate.specs.Stepping.{key_loaded}
use Rattle.room_gate.proofs.UserWords.{exits_of}
use Rattle.room_gate.proofs.rooms.Rooms.key_load.Goals as goal

pub load_as-requires-clause-step : goal.load_as-requires-clause-step
load_as-requires-clause-step g c =
    let M = g.U.RoomUse.meaning in let x = c.args.self.now.usage in let word = c.args.word in
    let then = g.M.Outcome.then c.args.what.now in let me = c.key.inside.seat.me in
    exits_of M g.U.RoomUse.ROOMS g.met.U.RoomUse.laws c.args.self.now word c.requires.word then
    c.key.inside c.key.invariant c.args.key.now c.key.view_is (λ n. n) (λ n. n)
    (λ _. me.0.kept) (key_loaded M x word then me) c.requires.can (λ n _. refl)
    (λ words size shows. shows_same M x words me.0.kept word (get_or words word 0) size refl shows)
    (λ n u shown t made. (refl, shown, t, made))
