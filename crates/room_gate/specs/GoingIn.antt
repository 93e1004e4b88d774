-- What waiting for a room changes.
use Rattle.std.specs.Prelude.{◌≡◌, ℕ, ◌+◌, ◌<◌, ◌≤◌, None}
use Rattle.room_rule.specs.Openings.{StartsWith}
use Rattle.room_gate.specs.Shows.{Caller, Waiter, Insider}

module _ {S V : Type 0} where
  -- the caller that waited is inside, keeps no slot, and made one look or more
  pub record IsThrough (w : Waiter V) (i : Insider S V) : Type 0 where
    pub caller : i.caller ≡ record w.caller {
      seen = i.caller.seen;
      first = i.caller.first;
      loads = i.caller.loads;
    }
    pub room : i.opening.room ≡ w.room
    pub ticket : i.ticket ≡ w.ticket
    pub held : i.held ≡ None
    pub seen : StartsWith i.caller.seen w.caller.seen
    pub looked : w.caller.loads < i.caller.loads

  -- the pass drew a ticket of the room, is inside by it, keeps no slot, and made one look or more
  pub record GoesIn (pass : Caller V) (room : ℕ) (i : Insider S V) : Type 0 where
    pub caller : i.caller ≡ record pass {
      draws = pass.draws + 1;
      seen = i.caller.seen;
      first = i.caller.first;
      loads = i.caller.loads;
    }
    pub inside : i.opening.room ≡ room
    pub held : i.held ≡ None
    pub seen : StartsWith i.caller.seen pass.seen
    pub looked : pass.loads < i.caller.loads

-- the caller still waits, and nothing changed but what it saw
pub record StillWaits {V : Type 0} (w after : Waiter V) : Type 0 where
  pub caller : after.caller ≡ record w.caller {
    first = after.caller.first;
    loads = after.caller.loads;
  }
  pub room : after.room ≡ w.room
  pub ticket : after.ticket ≡ w.ticket
  pub looked : w.caller.loads ≤ after.caller.loads
