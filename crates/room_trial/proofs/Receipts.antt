-- The answers of a bay by their receipts.
use Rattle.std.proofs.Common.{ℕ, ◌≤◌, arith}
use Rattle.room_gate.specs.Shows.{Caller}
use Rattle.bay_core.specs.declared.calls.Op.{Op}
use Rattle.bay_core.specs.declared.calls.Op.TheVariants.{Peek, Sizes}
use Rattle.bay_rule.specs.declared.bay_use.BayUse.{BayUse}
use Rattle.bay_rule.specs.declared.views.BayView.{BayView}
use Rattle.bay_store.specs.Calls.{CallGives, PutGives, TakeGives, PeekGives, SizesGive, held_taken}
use Rattle.bay_store.specs.declared.receipts.Pushed.{Pushed}
use Rattle.bay_store.specs.declared.receipts.Pushed.TheVariants as pushed
use Rattle.bay_store.specs.declared.receipts.Popped.{Popped}
use Rattle.bay_store.specs.declared.receipts.Popped.TheVariants as popped
use Rattle.bay_store.specs.declared.receipts.Peeked.{Peeked}
use Rattle.bay_store.specs.declared.receipts.Peeked.TheVariants as peeked
use Rattle.bay_store.specs.declared.receipts.Counted.{Counted}
use Rattle.bay_store.specs.declared.receipts.Counted.TheVariants as counted
use Rattle.room_trial.specs.Receipts.{put_receipt, take_receipt, peek_receipt, sizes_receipt}

pub put_gives : (x : BayUse) (op : Op) (item : ℕ) (before now : Caller BayView) (p : Pushed)
    → PutGives x op item before now p → CallGives x op item before now (put_receipt p)
put_gives x op item before now (pushed.Stored r) g = g.0
put_gives x op item before now (pushed.Full r) g = g.0
put_gives x op item before now pushed.Spent g = g

pub take_gives : (x : BayUse) (op : Op) (before now : Caller BayView) (p : Popped)
    → TakeGives x op before now p → CallGives x op 0 before now (take_receipt p)
take_gives x op before now (popped.Item item r) g = g.0
take_gives x op before now (popped.Empty r) g = g.0
take_gives x op before now popped.Spent g = g

pub peek_gives : (x : BayUse) (before now : Caller BayView) (p : Peeked)
    → PeekGives x before now p → CallGives x Peek 0 before now (peek_receipt p)
peek_gives x before now (peeked.Item item r) g = g.0
peek_gives x before now (peeked.Empty r) g = g.0
peek_gives x before now peeked.Spent g = g

pub sizes_give : (x : BayUse) (before now : Caller BayView) (p : Counted)
    → SizesGive x before now p → CallGives x Sizes 0 before now (sizes_receipt p)
sizes_give x before now (counted.Sizes stack queue r) g = g.0
sizes_give x before now counted.Spent g = g

-- a call that takes an item leaves no fewer shares
pub taken_more : (p : Popped) (held : ℕ) → held ≤ held_taken p held
taken_more (popped.Item item r) held = omega arith
taken_more (popped.Empty r) held = omega arith
taken_more popped.Spent held = omega arith
