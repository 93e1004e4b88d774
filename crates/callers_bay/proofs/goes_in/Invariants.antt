use Rattle.std.proofs.Common.{◌≡◌}
use Rattle.bay_core.specs.declared.calls.Layout.TheVariants.{Split}
use Rattle.callers_bay.proofs.goes_in.Given as goal

-- it waits to do the same, in the same bay
abbrev pub invariant-loop : goal.invariant-loop
invariant-loop g l = record {
  next : (goal.iterator-loop g).can_next l.iterator';
  finite : (goal.iterator-loop g).is_finite l.iterator';
  own : l.waiting.waiter.caller.site ≡ l.bay.site;
  split : l.bay.usage.layout ≡ Split;
  wish_is : l.waiting.wish ≡ l.fn.waiting.wish;
}
