use Rattle.std.proofs.Common.{◌≤◌}
use Rattle.std.specs.Slots.{slots_items}
use Rattle.std.specs.Vec.{vec_capacity}
use Rattle.mark_words.specs.Ending.{Reads}
use Rattle.mark_words.proofs.closes.read_bits.Given as goal

-- the bits before this one are read
abbrev pub invariant-loop-bit : goal.invariant-loop-bit
invariant-loop-bit l = record {
  read : Reads (slots_items l.closed.words) l.bit l.set.items;
  room : l.bits ≤ vec_capacity l.set;
}
