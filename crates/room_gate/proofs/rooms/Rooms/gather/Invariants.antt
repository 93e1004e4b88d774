use Rattle.std.proofs.Common.{◌≡◌, ℕ, ◌++◌, map}
use Rattle.room_rule.specs.Use.{IsAt}
use Rattle.room_rule.specs.declared.views.Role.TheVariants.{Keeper}
use Rattle.room_gate.specs.Shows.{Caller}
use Rattle.room_gate.specs.Closing.{last_of}
use Rattle.room_gate.proofs.rooms.Rooms.gather.Given as goal

-- the seat has the passes that were taken in, and the others are left
abbrev pub invariant-loop-pass : goal.invariant-loop-pass
invariant-loop-pass g l = record {
  same : l.seat.table_id ≡ l.self.site;
  keeper : l.seat.me.0.role ≡ Keeper;
  own : (i : ℕ) (p : Caller _) → IsAt l.passes.items i p → p.site ≡ l.self.site;
  ended : map last_of l.passes.items ++ l.seat.me.0.ended ≡ map last_of l.fn.passes.items;
}

abbrev pub decreases-loop-pass : goal.decreases-loop-pass
decreases-loop-pass g l = goal.left-loop-pass g l
