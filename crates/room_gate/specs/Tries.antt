-- What one try to enter leaves of a seat.
use Rattle.std.specs.Prelude.{◌≡◌, ◌≢◌, ℕ, ◌+◌, ◌-◌, ◌<◌, ◌≤◌, ◌⊎◌, Option, Some}
use Rattle.atomic_table.specs.declared.shared.Seat.{Seat}
use Rattle.room_core.specs.declared.phases.Phase.TheVariants as phases
use Rattle.room_core.specs.Active.{seen}
use Rattle.room_rule.specs.Use.{Meaning}
use Rattle.room_rule.specs.Told.{ComesIn, Carries}
use Rattle.room_rule.specs.declared.views.Shown.{Shown}
use Rattle.room_gate.specs.Rows.{Goes}
use Rattle.room_gate.specs.Entering.{first_look, IsBarred}
use Rattle.room_gate.specs.declared.polls.Tried.{Tried}
use Rattle.room_gate.specs.declared.polls.Tried.TheVariants.{In, Barred}

module _ {X S V : Type 0} (M : Meaning X S V) (rooms room ticket : ℕ) (first : Option ℕ)
    (before after : Seat (Option S) (Shown V)) where
  -- it is inside by an opening of the turn, which let in up to `to`
  pub record TriedIn (f turn to : ℕ) : Type 0 where
    pub goes : Goes before after (record before.me.0 {
      phase = phases.Inside room ticket (Some f) turn to;
      grant = after.me.0.grant;
      active = after.me.0.active;
      found = after.me.0.found;
      loads = before.me.0.loads + 1;
      first = Some f;
      seen = after.me.0.seen;
    })
    pub comes_in : ComesIn rooms room ticket turn to f before.me.0.seen after.me.0.seen
    pub low : M.last before.me.0.user < turn
    pub no_slot : Carries (M.keeps before.me.0.user) before.me.1
    pub looked : (Some f ≡ first_look first turn) ⊎ (Some f ≡ first_look first (turn - 1))

  -- it still looks, with what it loaded and what its exchange found
  pub record TriedOut (f grant active : ℕ) (found : Option ℕ) : Type 0 where
    pub goes : Goes before after (record before.me.0 {
      phase = phases.Looking room ticket (Some f);
      grant = grant;
      active = active;
      found = found;
      loads = before.me.0.loads + 1;
      first = Some f;
    })
    pub first_is : Some f ≡ seen first active
    pub below : grant < ticket
    pub barred : IsBarred active found

  abbrev pub MatchTried : Tried → Type 0
  MatchTried (In f turn to) = TriedIn f turn to
  MatchTried (Barred f grant active found) = TriedOut f grant active found

-- the try found the room open
abbrev pub IsTriedIn : Tried → Type 0
IsTriedIn (In f turn to) = Unit {0}
IsTriedIn (Barred f grant active found) = ⊥
