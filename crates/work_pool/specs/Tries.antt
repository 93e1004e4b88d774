-- What one try to take leaves of its caller.
use Rattle.std.specs.Prelude.{◌≡◌, ◌≢◌, ℕ, ◌+◌, ◌-◌, ◌^◌, min, None}
use Rattle.room_gate.specs.Shows.{Caller}
use Rattle.bay_core.specs.declared.calls.Op.{Op}
use Rattle.bay_rule.specs.declared.bay_use.BayUse.{BayUse}
use Rattle.bay_rule.specs.declared.views.BayView.{BayView}
use Rattle.bay_store.specs.Calls.{TakeGives}
use Rattle.bay_store.specs.Sharing.{holding}
use Rattle.bay_store.specs.Quiet.{hearing, hearing_quiet, IsQuietFor}
use Rattle.bay_store.specs.declared.receipts.Receipt.{Receipt}
use Rattle.bay_store.specs.declared.receipts.Popped.{Popped}
use Rattle.bay_store.specs.declared.receipts.Popped.TheVariants as popped
use Rattle.work_pool.specs.Shows.{Worker}
use Rattle.work_pool.specs.declared.tries.Tried.{Tried}
use Rattle.work_pool.specs.declared.tries.Tried.TheVariants as tried

-- the shares that a call may leave to one that held at most one before
abbrev pub most_held : Popped → ℕ
most_held (popped.Item item r) = 2
most_held _ = 1

-- the shares that it leaves at least
abbrev pub least_held : Popped → ℕ
least_held (popped.Item item r) = 1
least_held _ = 0

-- after the bay's call, by what it gave: the caller keeps one share with an item, and else none;
-- where nothing was found it asked whether the bay is quiet
abbrev pub Settles : BayUse → Popped → Caller BayView → Caller BayView → Tried → Type 0
Settles x p before now (tried.Got item r) = (p ≡ popped.Item item r) × (now ≡ holding before 1)
Settles x p before now tried.Nothing =
    (r : Receipt) × (p ≡ popped.Empty r)
    × (now ≡ hearing (holding before 0) now.user.live)
    × (now.user.live ≢ 0)
    × (before.user.quiet_at ≡ None)
Settles x p before now tried.Quiet =
    (r : Receipt) × (p ≡ popped.Empty r)
    × (now ≡ hearing_quiet (holding before 0) now.user.seen)
    × IsQuietFor x (holding before 0) now.user.seen
Settles x p before now tried.Spent = (p ≡ popped.Spent) × (now ≡ holding before 0)

-- a whole try: the bay's call, and what follows it
pub record Tries (x : BayUse) (op : Op) (before now : Caller BayView) (answer : Tried) : Type 0 where
  pub called : Caller BayView
  pub gave : Popped
  pub call : TakeGives x op before called gave
  pub settles : Settles x gave called now answer

-- a worker after one question more
abbrev pub questioned : Worker → Caller BayView → Worker
questioned hand caller =
    record { caller = caller; worker = hand.worker; asked = min (hand.asked + 1) (2 ^ 64 - 1) }
