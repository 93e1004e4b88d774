use Rattle.std.proofs.Common.{◌≡◌, ℕ, ◌<◌, ◌≤◌, true, false, get_or, take}
use Rattle.std.specs.Slots.{slots_items, slots_filled, slots_len}
use Rattle.std.specs.Vec.{vec_capacity}
use Rattle.room_gate.proofs.closes.take_slots.Given as goal

-- the slots before this one are taken
abbrev pub invariant-loop-slot : goal.invariant-loop-slot
invariant-loop-slot g l = record {
  taken : l.slots.items ≡ take l.slot (slots_items l.fn.closed.slots);
  same : slots_items l.closed.slots ≡ slots_items l.fn.closed.slots;
  long : slots_len l.closed.slots ≡ slots_len l.fn.closed.slots;
  full : (k : ℕ) → l.slot ≤ k → k < slots_len l.fn.closed.slots
      → get_or (slots_filled l.closed.slots) k false ≡ true;
  empty : (k : ℕ) → k < l.slot → get_or (slots_filled l.closed.slots) k false ≡ false;
  room : slots_len l.fn.closed.slots ≤ vec_capacity l.slots;
}
