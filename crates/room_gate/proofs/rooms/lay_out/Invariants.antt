use Rattle.std.proofs.Common.{◌≡◌, replicate}
use Rattle.room_gate.specs.Making.{IsLaidOut}
use Rattle.room_gate.proofs.rooms.lay_out.Given as goal

abbrev pub invariant-loop : goal.invariant-loop
invariant-loop g l = l.words.items ≡ replicate l.counter 0

abbrev pub invariant-loop-word : goal.invariant-loop-word
invariant-loop-word g l =
    IsLaidOut g.U.RoomUse.ROOMS g.U.RoomUse.meaning l.usage l.callers l.word l.words.items
