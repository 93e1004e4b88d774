use Rattle.std.proofs.Common.{◌≡◌, ◌+◌, ◌≤◌, length}
use Rattle.callers_claims.proofs.claim_each.Given as goal

-- the seat stays one of this set-up, and its wins were counted, no more than bits were claimed
abbrev pub invariant-loop-bit : goal.invariant-loop-bit
invariant-loop-bit l = record {
  own : l.seat.site ≡ l.claims.site;
  counted : length l.seat.won ≡ length l.fn.seat.won + l.won;
  few : l.won ≤ l.bit;
}
