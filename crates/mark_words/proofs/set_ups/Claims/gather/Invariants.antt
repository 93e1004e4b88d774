use Rattle.std.proofs.Common.{◌≡◌, ℕ, ◌+◌, ◌++◌, length}
use Rattle.mark_words.specs.Closing.{all_won, all_found}
use Rattle.mark_words.specs.Rule.{IsAt}
use Rattle.mark_words.specs.Shows.{Claimant}
use Rattle.mark_words.proofs.set_ups.Claims.gather.Given as goal

-- the seat has those that were taken in, and the others are left
abbrev pub invariant-loop-other : goal.invariant-loop-other
invariant-loop-other l = record {
  same : l.seat.table_id ≡ l.self.site;
  own : (i : ℕ) (c : Claimant) → IsAt l.seats.items i c → c.site ≡ l.self.site;
  parts : length l.seats.items + l.seat.me.0.parts ≡ length l.fn.seats.items;
  won : all_won l.seats.items ++ l.seat.me.0.won ≡ all_won l.fn.seats.items;
  found : all_found l.seats.items ++ l.seat.me.0.found ≡ all_found l.fn.seats.items;
}

abbrev pub decreases-loop-other : goal.decreases-loop-other
decreases-loop-other l = goal.left-loop-other l
