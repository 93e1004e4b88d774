use Rattle.std.proofs.Common.{◌≡◌, length, take}
use Rattle.bay_core.specs.declared.numbers.TheConstants.{MOST_ITEMS}
use Rattle.bay_store.proofs.items.Items.of.Given as goal

-- the items before this one are there
abbrev pub invariant-loop-i : goal.invariant-loop-i
invariant-loop-i l = record {
  long : length l.room ≡ MOST_ITEMS;
  same : take l.i l.room ≡ take l.i l.items;
}
