-- What one put of several items leaves of its caller.
use Rattle.std.specs.Prelude.{◌≡◌, ◌≢◌, ℕ, ◌≤◌, List, [], ◌∷◌, ◌++◌, length, take, drop}
use Rattle.room_gate.specs.Shows.{Caller}
use Rattle.bay_core.specs.declared.calls.Op.TheVariants.{Push}
use Rattle.bay_core.specs.declared.calls.Reply.{Reply}
use Rattle.bay_core.specs.declared.calls.Reply.TheVariants as replies
use Rattle.bay_core.specs.declared.calls.Entry.{Entry}
use Rattle.bay_rule.specs.declared.bay_use.BayUse.{BayUse}
use Rattle.bay_rule.specs.declared.views.BayView.{BayView}
use Rattle.bay_store.specs.Handfuls.{PutsSome, refused_of}
use Rattle.bay_store.specs.declared.receipts.Stop.TheVariants.{All, Overflow, Spent}
use Rattle.work_pool.specs.Gaining.{Gains}
use Rattle.work_pool.specs.Puts.{IsStill}
use Rattle.work_pool.specs.declared.handfuls.PutSome.{PutSome}

-- the entries are of pushes of these items, one for each in their order, all with this reply
abbrev pub ArePushes : Reply → List ℕ → List Entry → Type 0
ArePushes reply [] es = es ≡ []
ArePushes reply (item ∷ items) [] = ⊥
ArePushes reply (item ∷ items) (e ∷ es) =
    (e.op ≡ Push) × (e.arg ≡ item) × (e.reply ≡ reply) × ArePushes reply items es

-- A put of these items, by its caller before and now, and its answer.
pub record PutsSeveral (x : BayUse) (items : List ℕ) (before now : Caller BayView)
    (answer : PutSome) : Type 0 where
  -- it answers what the bay's handful answered
  pub call : PutsSome x items before now (record { stored = answer.shared; stop = answer.stop })
  -- the first items are stored, so many as it says; all of them where nothing stopped it
  pub few : answer.shared ≤ length items
  pub all : answer.stop ≡ All → answer.shared ≡ length items
  pub never : answer.stop ≢ Overflow
  -- its own calls gained an entry with reply Done for each item that is stored, and at Full one with that
  -- reply for each other item, in the items' order, and none else
  pub stored : List Entry
  pub refused : List Entry
  pub are_stored : ArePushes replies.Done (take answer.shared items) stored
  pub are_refused : ArePushes replies.Full (refused_of answer.stop (drop answer.shared items)) refused
  pub gains : Gains x before now (stored ++ refused)
  -- where it was spent, no draw is left
  pub spent : answer.stop ≡ Spent → now.draws ≡ now.limit
  pub still : IsStill before now
