-- What contracts see of a pool and of its callers.
use Rattle.std.specs.Prelude.{◌≡◌, ℕ, ◌^◌, ◌<◌, ◌≤◌}
use Rattle.atomic_table.specs.Seated.{TableId}
use Rattle.room_gate.specs.Shows.{Caller}
use Rattle.bay_core.specs.History.{own}
use Rattle.bay_rule.specs.declared.bay_use.BayUse.{BayUse}
use Rattle.bay_rule.specs.declared.views.BayView.{BayView}
use Rattle.work_pool.specs.declared.pools.Way.{Way}

-- a pool: the set-up of its bay, the bay's layout and blocks, and the list through which items go
pub record Shared : Type 0 where
  pub site : TableId
  pub usage : BayUse
  pub way : Way

-- a hand: the bay's caller that it is, its number at the gate, and how many questions it asked there
pub record Worker : Type 0 where
  pub caller : Caller BayView
  pub worker : ℕ
  pub asked : ℕ

-- what holds of each hand: its own calls are those of its number in the history that it has seen, and
-- it has made no more draws than it may
pub record IsHand (hand : Worker) : Type 0 where
  pub mine : hand.caller.user.mine ≡ own hand.caller.who hand.caller.user.seen
  pub limited : hand.caller.draws ≤ hand.caller.limit
  pub few : hand.caller.limit ≤ 2 ^ 48
  pub asked : hand.asked < 2 ^ 64
