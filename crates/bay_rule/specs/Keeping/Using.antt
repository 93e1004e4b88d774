-- For what a caller has used its draws after one more.
use Rattle.std.proofs.Common.{◌≡◌, ℕ, ◌+◌, ◌<◌, ◌≤◌, Bool, true, false, List, ◌∷◌, length, ap, arith}
use Rattle.bay_core.specs.declared.calls.Op.{Op}
use Rattle.bay_core.specs.declared.calls.Op.TheVariants.{Push, Pop, Enq, Deq, Peek, Sizes}
use Rattle.bay_core.specs.declared.calls.Noted.{Noted}
use Rattle.bay_core.specs.declared.numbers.TheConstants.{MOST_DRAWS, MOST_ITEMS}
use Rattle.bay_rule.specs.Spending.{enq_stored, enqs_in}
use Rattle.bay_rule.specs.Draws.{UsedFor}

pub stored_few : (op : Op) (b : Bool) → enq_stored op b ≤ 1
stored_few Push b = omega arith
stored_few Pop b = omega arith
stored_few Enq true = omega arith
stored_few Enq false = omega arith
stored_few Deq b = omega arith
stored_few Peek b = omega arith
stored_few Sizes b = omega arith

-- with as many draws, overflows and calls
pub used_same : (d d' o o' : ℕ) (mine mine' : List Noted) → d' ≡ d → o' ≡ o → mine' ≡ mine → UsedFor d o mine → UsedFor d' o' mine'
used_same d d' o o' mine mine' draws overflows same k = record {
  limited = omega (arith, draws, k.limited);
  calls = omega (arith, draws, overflows, ap (λ l. length l) same, k.calls);
  together = omega (arith, draws, ap (λ l. length l) same, k.together);
  enqs = omega (arith, draws, ap enqs_in same, k.enqs);
}

-- with one call more
pub used_more : (d o : ℕ) (n : Noted) (mine : List Noted) → d < MOST_DRAWS → UsedFor d o mine → UsedFor (d + 1) o (n ∷ mine)
used_more d o n mine limited k = record {
  limited = omega (arith, limited);
  calls = omega (arith, k.calls);
  together = omega (arith, k.together);
  enqs = omega (arith, k.enqs, stored_few n.op n.stored);
}

-- with the calls of a handful more, or an overflow, or both
pub used_some : (d o o' : ℕ) (mine mine' : List Noted) → length mine + o + 1 ≤ length mine' + o' → length mine' ≤ length mine + MOST_ITEMS → enqs_in mine' ≡ enqs_in mine → d < MOST_DRAWS → UsedFor d o mine
    → UsedFor (d + 1) o' mine'
used_some d o o' mine mine' more few enqs limited k = record {
  limited = omega (arith, limited);
  calls = omega (arith, more, k.calls);
  together = omega (arith, few, k.together);
  enqs = omega (arith, enqs, k.enqs);
}

-- with an overflow more
pub used_overflow : (d o o' : ℕ) (mine : List Noted) → o' ≡ o + 1 → d < MOST_DRAWS → UsedFor d o mine → UsedFor (d + 1) o' mine
used_overflow d o o' mine more limited k = record {
  limited = omega (arith, limited);
  calls = omega (arith, more, k.calls);
  together = omega (arith, k.together);
  enqs = omega (arith, k.enqs);
}
