-- What a visit to the box changes, and what its answer says.
use Rattle.std.specs.Prelude.{◌≡◌, ◌+◌, ◌<◌, false, Some, None}
use Rattle.room_gate.specs.Shows.{Caller, Insider}
use Rattle.drop_box.specs.declared.uses.Visit.{Visit}
use Rattle.drop_box.specs.declared.puts.Put.{Put}
use Rattle.drop_box.specs.declared.puts.Put.TheVariants as put
use Rattle.drop_box.specs.declared.takes.Taken.{Taken}
use Rattle.drop_box.specs.declared.takes.Taken.TheVariants as taken

-- the pass is the same caller's, who rang as often as before
abbrev pub SameCaller : Caller Visit → Caller Visit → Type 0
SameCaller before after = after ≡ record before {
  draws = after.draws;
  user = record before.user { last = after.user.last; keeps = after.user.keeps };
  seen = after.seen;
  first = after.first;
  loads = after.loads;
  done = after.done;
}

-- it had a draw left, and made it
abbrev pub WentIn : Caller Visit → Caller Visit → Type 0
WentIn before after = (before.draws < before.limit) × (after.draws ≡ before.draws + 1)

-- it had no draw left, and is as it was
abbrev pub StayedOut : Caller Visit → Caller Visit → Type 0
StayedOut before after = (before.draws ≡ before.limit) × (after ≡ before)

-- who was inside came out again: it keeps no slot, and rang as often as before
abbrev pub CameOut : Caller Visit → Caller Visit → Type 0
CameOut before after = after ≡ record before {
  user = record before.user { last = after.user.last; keeps = false };
  done = after.done;
}

module _ {T : Type 0} where
  -- Of putting the item in, by a caller that got in: where the box did not take it, it comes back.
  abbrev pub ComesBack : Put T → T → Type 0
  ComesBack put.Stored item = Unit {0}
  ComesBack (put.Refused back) item = back ≡ item
  ComesBack (put.Spent back) item = ⊥

  -- of putting the item in
  abbrev pub PutAnswers : Put T → T → Caller Visit → Caller Visit → Type 0
  PutAnswers put.Stored item before after = WentIn before after
  PutAnswers (put.Refused back) item before after = WentIn before after × (back ≡ item)
  PutAnswers (put.Spent back) item before after = StayedOut before after × (back ≡ item)

  -- of taking an item
  abbrev pub TakeAnswers : Taken T → Caller Visit → Caller Visit → Type 0
  TakeAnswers (taken.Item item) before after = WentIn before after
  TakeAnswers taken.Nothing before after = WentIn before after
  TakeAnswers taken.Spent before after = StayedOut before after

  -- of taking an item, by a caller that got in
  abbrev pub IsNotSpent : Taken T → Type 0
  IsNotSpent (taken.Item item) = Unit {0}
  IsNotSpent taken.Nothing = Unit {0}
  IsNotSpent taken.Spent = ⊥

  -- Of the caller that keeps the slot: an empty slot is filled, and a full one stays as it is.
  abbrev pub Fills : Insider T Visit → T → Put T → Insider T Visit → Type 0
  Fills before item put.Stored after =
      (before.held ≡ Some None) × (after ≡ record before { held = Some (Some item) })
  Fills before item (put.Refused back) after =
      ((there : T) × (before.held ≡ Some (Some there))) × (after ≡ before) × (back ≡ item)
  Fills before item (put.Spent back) after = ⊥

  -- the same caller is still inside: nothing is new but its last turn, and the slot that it keeps
  abbrev pub StillInside : Insider T Visit → Insider T Visit → Type 0
  StillInside before after = after ≡ record before {
    caller = record before.caller {
      user = record before.caller.user {
        last = after.caller.user.last;
        keeps = after.caller.user.keeps;
      };
    };
    held = after.held;
  }
