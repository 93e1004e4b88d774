-- What a call adds to the history, and to what its caller knows.
use Rattle.std.specs.Prelude.{◌≡◌, ℕ, List, ◌∷◌, Option, IfSome}
use Rattle.bay_core.specs.declared.calls.Op.{Op}
use Rattle.bay_core.specs.declared.calls.Entry.{Entry}
use Rattle.bay_core.specs.declared.calls.Noted.{Noted}
use Rattle.bay_core.specs.Noted.{entry_in, after}
use Rattle.bay_core.specs.Replay.{IsLawful}
use Rattle.bay_core.specs.History.{IsHistory, own, GoesOn}
use Rattle.bay_rule.specs.declared.bay_use.BayUse.{BayUse}
use Rattle.bay_rule.specs.declared.views.BayView.{BayView}
use Rattle.bay_rule.specs.Newest.{EmptySince}
use Rattle.bay_rule.specs.Told.{IsFrozen, Stood}
use Rattle.bay_store.specs.Acting.{rank_of, Finds}

-- what a caller knows of its bay's history after a call, whatever shares it holds
pub record Known : Type 0 where
  pub seen : List Noted
  pub mine : List Noted
  pub last : ℕ
  pub frozen : ℕ
  pub spare : ℕ
  pub old : ℕ
  pub quiet_at : Option ℕ

-- what of a caller does not rest on its draws and shares
abbrev pub known : BayView → Known
known v = record {
  seen = v.seen;
  mine = v.mine;
  last = v.last;
  frozen = v.frozen;
  spare = v.spare;
  old = v.old;
  quiet_at = v.quiet_at;
}

-- A call of this caller, which had seen the history `past` and made the calls `made`, and what it knows
-- after it; `told` is the entry of its receipt.
pub record AddsCall (x : BayUse) (op : Op) (item caller : ℕ) (past made : List Noted) (now : Known)
    (told : Entry) : Type 0 where
  pub noted : Noted
  pub history : List Noted
  -- the history that the caller has seen goes on from before, and ends with the call
  pub goes_on : GoesOn history past
  pub seen : now.seen ≡ noted ∷ history
  -- its own calls grew by just this one, and are all of its number
  pub mine : now.mine ≡ noted ∷ made
  pub all_mine : now.mine ≡ own caller now.seen
  -- the receipt has the call's entry in the history, which is of this caller, operation and item
  pub entry : told ≡ entry_in (after history) noted
  pub who : told.who ≡ caller
  pub op_is : told.op ≡ op
  pub arg : told.arg ≡ item
  pub rank : told.rank ≡ rank_of op now.old
  pub last : told.turn ≡ now.last
  -- the words that it loaded were so at its deciding step, and the reply is as that step found it
  pub frozen : IsFrozen x.layout op now.frozen (after history)
  pub stood : Stood x.layout x.blocks caller told.turn op now.frozen now.spare now.old history
  pub finds : Finds x.layout x.blocks op now.frozen now.spare now.old told.reply
  -- The entry may have its reply there: with Full there is no room for one item more, with Empty
  -- there was none, and an Item was the top one or the oldest one. The whole history is legal and
  -- roomed.
  pub lawful : IsLawful x.layout x.blocks (after history) told
  pub legal : IsHistory x.layout x.blocks now.seen
  -- since the caller found the bay quiet, each call was answered empty
  pub since : IfSome now.quiet_at (λ k. EmptySince k now.seen)
