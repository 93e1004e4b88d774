-- What one put leaves of its caller.
use Rattle.std.specs.Prelude.{◌≡◌, ℕ, [], ◌∷◌}
use Rattle.room_gate.specs.Shows.{Caller}
use Rattle.bay_core.specs.declared.calls.Op.{Op}
use Rattle.bay_core.specs.declared.calls.Reply.{Reply}
use Rattle.bay_core.specs.declared.calls.Reply.TheVariants as replies
use Rattle.bay_rule.specs.declared.bay_use.BayUse.{BayUse}
use Rattle.bay_rule.specs.declared.views.BayView.{BayView}
use Rattle.bay_store.specs.Calls.{Adds}
use Rattle.bay_store.specs.declared.receipts.Receipt.{Receipt}
use Rattle.bay_store.specs.declared.receipts.Pushed.{Pushed}
use Rattle.bay_store.specs.declared.receipts.Pushed.TheVariants as pushed
use Rattle.work_pool.specs.Gaining.{Gains, HearsNothing}
use Rattle.work_pool.specs.declared.puts.Put.{Put}
use Rattle.work_pool.specs.declared.puts.Put.TheVariants.{Shared, Full, Spent}

-- the caller holds as many shares as before, and has heard nothing more of `live`
pub record IsStill (before now : Caller BayView) : Type 0 where
  pub held : now.user.held ≡ before.user.held
  pub hears : HearsNothing before now

-- a put with an entry: the receipt is that of the bay's call with this item, which was answered so
pub record PutsIn (x : BayUse) (op : Op) (item : ℕ) (reply : Reply) (before now : Caller BayView)
    (receipt : Receipt) : Type 0 where
  pub adds : Adds x op item before now receipt
  pub reply_is : receipt.entry.reply ≡ reply
  pub gains : Gains x before now (receipt.entry ∷ [])
  pub still : IsStill before now

-- a put without one: no draw is left
pub record PutsNone (x : BayUse) (before now : Caller BayView) : Type 0 where
  pub gains : Gains x before now []
  pub spent : now.draws ≡ now.limit
  pub still : IsStill before now

-- a put of an item by this operation, by its answer: what is not stored is given back
abbrev pub Puts : BayUse → Op → ℕ → Caller BayView → Caller BayView → Put → Type 0
Puts x op item before now (Shared r) = PutsIn x op item replies.Done before now r
Puts x op item before now (Full i) =
    (i ≡ item) × (r : Receipt) × PutsIn x op item replies.Full before now r
Puts x op item before now (Spent i) = (i ≡ item) × PutsNone x before now

-- what the bay's answer to a call with this item is to the pool's caller
abbrev pub answer_to : Pushed → ℕ → Put
answer_to (pushed.Stored r) item = Shared r
answer_to (pushed.Full r) item = Full item
answer_to pushed.Spent item = Spent item
