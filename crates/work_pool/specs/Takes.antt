-- What one take leaves of its caller.
use Rattle.std.specs.Prelude.{◌≡◌, ◌≢◌, ℕ, ◌+◌, ◌-◌, ◌^◌, ◌<◌, ◌↔◌, min, List, [], ◌∷◌, ◌++◌, length, All, Option, None}
use Rattle.room_gate.specs.Shows.{Caller}
use Rattle.bay_core.specs.declared.calls.Op.{Op}
use Rattle.bay_core.specs.declared.calls.Reply.{Reply}
use Rattle.bay_core.specs.declared.calls.Reply.TheVariants as replies
use Rattle.bay_core.specs.declared.calls.Entry.{Entry}
use Rattle.bay_core.specs.declared.calls.Noted.{Noted}
use Rattle.bay_rule.specs.declared.bay_use.BayUse.{BayUse}
use Rattle.bay_rule.specs.declared.views.BayView.{BayView}
use Rattle.bay_rule.specs.Leaving.{first_of}
use Rattle.bay_store.specs.Calls.{Adds}
use Rattle.work_pool.specs.Shows.{Worker}
use Rattle.work_pool.specs.Gaining.{KnowsQuiet, Gains}
use Rattle.work_pool.specs.declared.takes.Taken.{Taken}
use Rattle.work_pool.specs.declared.takes.Taken.TheVariants.{Item, Quiet, Spent}

-- a try to take that was answered so, by its entry
abbrev pub IsTry : Op → Reply → Entry → Type 0
IsTry op reply e = (e.op ≡ op) × (e.arg ≡ 0) × (e.reply ≡ reply)

-- the entry of the try that took the item, where one did
abbrev pub item_entry : Taken → List Entry
item_entry (Item item r) = r.entry ∷ []
item_entry _ = []

-- the shares that are held then
abbrev pub held_with : Taken → ℕ
held_with (Item item r) = 1
held_with _ = 0

-- the questions beyond those before tries that found nothing
abbrev pub last_question : Taken → ℕ
last_question Quiet = 0
last_question _ = 1

-- how many calls the caller had seen when it first found the bay quiet, with this history seen now
abbrev pub quiet_since : Taken → List Noted → Option ℕ → Option ℕ
quiet_since Quiet h since = first_of since (length h)
quiet_since _ h since = since

-- What the answer says by itself. An item is what the last try took: the receipt is of that call.
-- Quiet means that the bay is so for good. Spent means that no draw is left.
abbrev pub Says : BayUse → Op → Caller BayView → Taken → Type 0
Says x op now (Item item r) =
    IsTry op (replies.Item item) r.entry × (before : Caller BayView) × Adds x op 0 before now r
Says x op now Quiet = KnowsQuiet x now
Says x op now Spent = now.draws ≡ now.limit

-- A take by this operation, by its caller before and now, the entries of its tries that found nothing
-- in their order, and its answer. An item is taken by one try more.
pub record Takes (x : BayUse) (op : Op) (before now : Caller BayView) (empties : List Entry)
    (answer : Taken) : Type 0 where
  pub empty : All (IsTry op replies.Empty) empties
  pub says : Says x op now answer
  -- its own calls gained the entries of these tries
  pub gains : Gains x before now (empties ++ item_entry answer)
  -- it is quiet exactly where the take made a load of `live`, and the last one gave 0; one that gave
  -- more is by a caller that had never found the bay quiet
  pub quiet : (answer ≡ Quiet) ↔ (before.user.loads < now.user.loads) × (now.user.live ≡ 0)
  pub never : before.user.loads < now.user.loads → now.user.live ≢ 0 → before.user.quiet_at ≡ None
  -- what the last load before gave stands where the take made none
  pub still : length empties ≡ 0 → now.user.live ≡ before.user.live
  -- it made a load of `live`, without a share, after each try that found nothing
  pub loads : now.user.loads ≡ before.user.loads + length empties
  pub bare_loads : now.user.bare_loads ≡ before.user.bare_loads + length empties
  pub since : now.user.quiet_at ≡ quiet_since answer now.user.seen before.user.quiet_at
  -- it holds one share with an item, and else none
  pub held : now.user.held ≡ held_with answer

-- A take by its worker: it asked the gate before each try, up to the last number that there is.
pub record Works (x : BayUse) (op : Op) (before now : Worker) (answer : Taken) : Type 0 where
  pub empties : List Entry
  pub takes : Takes x op before.caller now.caller empties answer
  pub asked : now.asked ≡ min (before.asked + length empties + last_question answer) (2 ^ 64 - 1)
  pub same : now.worker ≡ before.worker
