use Rattle.stay_tally.proofs.Can.{can_count_in}
use Rattle.stay_tally.proofs.stays.count.Goals as goal

pub add-requires-clause-can : goal.add-requires-clause-can
add-requires-clause-can c =
    let i = c.args.inside.now in let o = i.opening in
    can_count_in c.args.rooms.now.usage i.caller.who i.caller.user o.room o.turn c.room-room.result
    c.turn-turn.result i.held c.room-room.ensures.value c.turn-turn.ensures.value
    c.room-room.ensures.exists c.requires.new c.turn-turn.ensures.let_in.2.small
