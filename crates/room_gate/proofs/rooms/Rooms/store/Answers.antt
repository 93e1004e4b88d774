use Rattle.std.proofs.Common.{refl}
use Rattle.room_gate.specs.InsideModel.{insider_of}
use Rattle.room_gate.specs.Stepping.{any, stored}
use Rattle.room_gate.proofs.UserWords.{steps_of, has_stored}
use Rattle.room_gate.proofs.rooms.Rooms.store.Goals as goal

pub store_as-requires-clause-step : goal.store_as-requires-clause-step
store_as-requires-clause-step g c =
    steps_of g.U.RoomUse.meaning g.U.RoomUse.ROOMS g.met.U.RoomUse.laws c.args.self.now c.args.word c.requires.word
    (g.M.Outcome.then c.args.what.now) c.inside.inside c.inside.invariant c.args.inside.now c.inside.view_is
    (λ _. c.args.value) (λ _. c.args.value) any
    (λ _. stored g.U.RoomUse.meaning c.args.self.now.usage c.args.word (g.M.Outcome.then c.args.what.now) c.inside.inside.seat.me c.args.value)
    c.requires.can (λ n _ _. refl) (λ n u carried has t made. (refl, has, (n, t, made)))

pub returns-clause-told : goal.returns-clause-told
returns-clause-told g c =
    has_stored g.U.RoomUse.meaning g.U.RoomUse.ROOMS g.met.U.RoomUse.laws c.args.self.now
    c.args.word c.requires.word (g.M.Outcome.then c.args.what.now) c.inside.inside
    c.inside.invariant c.args.inside.now c.inside.view_is c.args.value c.store_as.new.seat.me
    (insider_of (record c.inside.inside { seat = c.store_as.new.seat })) refl
    c.store_as.ensures.told.2
