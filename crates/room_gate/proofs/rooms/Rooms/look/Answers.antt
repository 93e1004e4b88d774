use Rattle.std.proofs.Common.{Some, ap, arith}
use Rattle.room_gate.proofs.rooms.Rooms.look.Goals as goal

pub overflow_sub-result : goal.overflow_sub-result
overflow_sub-result g c =
    let i = c.inside.inside in
    let found = c.look_again-word.ensures.told.1 i.room i.ticket i.turn i.to (Some i.first)
    c.inside.invariant.phase in
    let code = found.code_is in omega arith

pub returns-clause-turn : goal.returns-clause-turn
returns-clause-turn g c =
    let i = c.inside.inside in
    let found = c.look_again-word.ensures.told.1 i.room i.ticket i.turn i.to (Some i.first)
    c.inside.invariant.phase in
    let turn = found.turn_is in let own = c.inside.invariant.turn in
    let shown = ap (λ i. i.opening.turn) c.inside.view_is in omega arith

pub returns-clause-room : goal.returns-clause-room
returns-clause-room g c =
    let i = c.inside.inside in
    let found = c.look_again-word.ensures.told.1 i.room i.ticket i.turn i.to (Some i.first)
    c.inside.invariant.phase in
    let code = found.code_is in let own = c.inside.invariant.room in
    let shown = ap (λ i. i.opening.room) c.inside.view_is in omega arith
