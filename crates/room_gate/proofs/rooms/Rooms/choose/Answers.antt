use Rattle.std.proofs.Common.{ℕ, suc, ◌+◌, ◌%◌, ap, arith}
use Rattle.room_core.proofs.Due.{ahead, ahead_low, next_further}
use Rattle.room_gate.proofs.rooms.Rooms.choose.Goals as goal

-- each room that is scanned lies one further ahead of the own one, which is the last
pub loop-drawn-smaller : goal.loop-drawn-smaller
loop-drawn-smaller g c =
    let m = g.U.RoomUse.ROOMS in let room = c.args.room in let k = c.loop-drawn.scanned in
    let own = c.requires.room.0 in let there = c.loop-drawn.invariant.exists in
    let n = next_further m room k own there c.if-scanned-room.false in
    let far = ahead_low m (suc room) ((k + 1) % m) (omega arith) (omega arith) n.0 in
    let one = n.1 in
    let same = ap (λ (z : ℕ). ahead m (suc room) ((k + 1) % z)) c.ROOMS-rooms.ensures in omega arith
