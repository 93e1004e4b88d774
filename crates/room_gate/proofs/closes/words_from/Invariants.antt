use Rattle.std.proofs.Common.{◌≡◌, ◌+◌, ◌-◌, ◌≤◌, take, drop}
use Rattle.std.specs.Slots.{slots_items}
use Rattle.std.specs.Vec.{vec_capacity}
use Rattle.room_gate.proofs.closes.words_from.Given as goal

-- the words before this place are copied
abbrev pub invariant-loop-place : goal.invariant-loop-place
invariant-loop-place g l = record {
  low : l.from ≤ l.place;
  copied : l.words.items ≡ take (l.place - l.from) (drop l.from (slots_items l.closed.words));
  room : l.to ≤ l.from + vec_capacity l.words;
}
