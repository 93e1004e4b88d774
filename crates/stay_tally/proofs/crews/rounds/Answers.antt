use Rattle.stay_tally.proofs.Together.{stayed_more, answered, draw_left}
use Rattle.stay_tally.proofs.crews.rounds.Goals as goal

pub loop-round-preserved : goal.loop-round-preserved
loop-round-preserved g c =
    let inv = c.loop-round.invariant in let k = c.loop-round.round in
    let mid = c.loop-round.pass in let after = c.stay-after.result.0 in
    let room = c.room_at.result in let a = c.args in
    let left = draw_left a.spread a.from k a.rounds a.pass mid inv.stayed c.loop-round-test.true
    c.requires.draws in
    let now = answered room mid after c.stay-after.result.1 c.stay-after.ensures left in
    let more = stayed_more a.spread a.from k room a.pass mid after inv.wide c.room_at.ensures.value
    c.room_at.ensures.exists inv.stayed now in
    record { stayed = more.0; wide = more.1 }
