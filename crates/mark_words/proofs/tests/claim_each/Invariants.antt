use Rattle.std.proofs.Common.{◌≡◌}
use Rattle.mark_words.proofs.tests.claim_each.Given as goal

-- the seat stays one of this set-up
abbrev pub invariant-loop-bit : goal.invariant-loop-bit
invariant-loop-bit l = record {
  own : l.seat.site ≡ l.claims.site;
}
