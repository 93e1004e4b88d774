use Rattle.std.proofs.Common.{refl, set}
use Rattle.room_rule.proofs.UserSteps.{shows_set}
use Rattle.room_gate.specs.Stepping.{key_stored}
use Rattle.room_gate.proofs.UserWords.{exits_of}
use Rattle.room_gate.proofs.rooms.Rooms.key_store.Goals as goal

pub store_as-requires-clause-step : goal.store_as-requires-clause-step
store_as-requires-clause-step g c =
    let M = g.U.RoomUse.meaning in let x = c.args.self.now.usage in let word = c.args.word in
    let then = g.M.Outcome.then c.args.what.now in let me = c.key.inside.seat.me in
    exits_of M g.U.RoomUse.ROOMS g.met.U.RoomUse.laws c.args.self.now word c.requires.word then
    c.key.inside c.key.invariant c.args.key.now c.key.view_is (λ _. c.args.value) (λ _. c.args.value)
    (λ _. set me.0.kept word c.args.value) (λ _. key_stored M x word then me c.args.value) c.requires.can (λ n _. refl)
    (λ words size shows. shows_set M x words me.0.kept word c.args.value size shows)
    (λ n u shown t made. (refl, (n, shown, t, made)))
