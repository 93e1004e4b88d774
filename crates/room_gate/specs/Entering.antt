-- What drawing, polling and learning change.
use Rattle.std.specs.Prelude.{◌≡◌, ◌≢◌, ℕ, ◌+◌, ◌-◌, ◌^◌, ◌<◌, ◌≤◌, ◌⊎◌, Option, Some, None, MatchOption, List, ◌++◌}
use Rattle.room_core.specs.declared.items.Opening.{Opening}
use Rattle.room_core.specs.declared.phases.Phase.TheVariants.{Looking}
use Rattle.room_core.specs.Active.{code_of, seen as looked}
use Rattle.room_rule.specs.Openings.{StartsWith, longer, IsAdmitted}
use Rattle.room_gate.specs.Shows.{Caller, Waiter, Insider}

-- the turn of the first look of one that looks in this turn
abbrev pub first_look : Option ℕ → ℕ → Option ℕ
first_look None turn = Some turn
first_look (Some first) turn = Some first

-- Why a poll does not enter: without an exchange, that the active word was of a room; with one, that
-- the word was idle, and the exchange found another.
abbrev pub IsBarred : ℕ → Option ℕ → Type 0
IsBarred active found = MatchOption found
    (code_of active ≢ 0)
    (λ word. (code_of active ≡ 0) × (word ≢ active))

module _ {V : Type 0} where
  -- a caller that drew a ticket of the room, and has not polled
  abbrev pub waiter : Caller V → ℕ → ℕ → Waiter V
  waiter pass room ticket = record {
    caller = record pass { draws = pass.draws + 1; first = None };
    room = room;
    ticket = ticket;
    grant = 0;
    active = 0;
    found = None;
    known = pass.seen;
    phase = Looking room ticket None;
  }

  -- the pass drew a ticket of the room
  pub record IsDrawn (pass : Caller V) (room : ℕ) (w : Waiter V) : Type 0 where
    pub is : w ≡ waiter pass room w.ticket
    pub positive : 0 < w.ticket
    pub small : w.ticket ≤ 2 ^ 54

  -- a poll did not enter: it made one look at the active word, and nothing changed but what it saw
  pub record IsHeldOff (w after : Waiter V) : Type 0 where
    pub same : after ≡ record w {
      caller = record w.caller { first = after.caller.first; loads = w.caller.loads + 1 };
      grant = after.grant;
      active = after.active;
      found = after.found;
      phase = Looking w.room w.ticket after.caller.first;
    }
    pub first : after.caller.first ≡ looked w.caller.first after.active
    pub below : after.grant < after.ticket
    pub barred : IsBarred after.active after.found

  -- a caller that waits learned of openings
  abbrev pub taught : Waiter V → List Opening → Waiter V
  taught w openings = record w {
    caller = record w.caller { seen = longer w.caller.seen openings };
    known = openings ++ w.known;
  }

module _ {S V : Type 0} where
  -- the caller that waited is inside, and keeps no slot: it made one look at the active word, in its
  -- turn or the turn before
  pub record HasEntered (w : Waiter V) (i : Insider S V) : Type 0 where
    pub caller : i.caller ≡ record w.caller {
      seen = i.caller.seen;
      first = i.caller.first;
      loads = w.caller.loads + 1;
    }
    pub room : i.opening.room ≡ w.room
    pub ticket : i.ticket ≡ w.ticket
    pub held : i.held ≡ None
    pub seen : StartsWith i.caller.seen w.caller.seen
    pub first :
        (i.caller.first ≡ first_look w.caller.first i.opening.turn)
        ⊎ (i.caller.first ≡ first_look w.caller.first (i.opening.turn - 1))

  -- the opening let the ticket in, at most as many turns after the first look as there are rooms
  abbrev pub IsLetIn : ℕ → Insider S V → Type 0
  IsLetIn rooms i =
      (first : ℕ)
      × (i.caller.first ≡ Some first)
      × IsAdmitted rooms i.ticket first i.caller.seen i.opening
