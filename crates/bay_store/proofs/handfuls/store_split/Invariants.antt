use Rattle.std.proofs.Common.{◌≡◌, ◌+◌, drop}
use Rattle.bay_rule.specs.Leaving.{filling}
use Rattle.bay_store.specs.Acting.{StillIn}
use Rattle.bay_store.proofs.handfuls.store_split.Given as goal

-- the items before this one are stored
abbrev pub invariant-loop-i : goal.invariant-loop-i
invariant-loop-i l = record {
  stage : l.inside.caller.user.stage ≡ filling (l.place + l.i) (drop l.i l.items);
  user : l.inside.caller.user ≡ record l.fn.inside.caller.user { stage = l.inside.caller.user.stage; aim = l.inside.caller.user.aim };
  same : StillIn l.fn.inside l.inside;
  none : l.i ≡ 0 → l.inside.caller.user ≡ l.fn.inside.caller.user;
}
