-- What one step of a caller that leaves, or passes on, leaves of its seat.
use Rattle.std.specs.Prelude.{ℕ, ◌+◌, ◌%◌, ◌==◌, nat_lt, if◌then◌else◌, Option, Some, None, List}
use Rattle.room_core.specs.declared.phases.Phase.{Phase}
use Rattle.room_core.specs.declared.phases.Phase.TheVariants as phases
use Rattle.room_rule.specs.declared.views.Shown.{Shown}

-- after the grant n of room k, of which w tickets were drawn: this room is next, or none is, or
-- the scan goes on
abbrev pub scan_on : ℕ → ℕ → ℕ → ℕ → ℕ → ℕ → Phase
scan_on rooms room turn k w n =
    if nat_lt n w then phases.Passing turn (Some k)
    else if k == room then phases.Passing turn None
    else phases.Scanning room turn ((k + 1) % rooms)

module _ {V : Type 0} where
  -- the departure was counted: who made up the last ticket has the key, and sees these user words;
  -- another is out
  abbrev pub departed : ℕ → ℕ → ℕ → ℕ → List ℕ → Shown V → Shown V
  departed room turn to n words v = record v {
    phase = if n + 1 == to then phases.Exiting room turn else phases.Out;
    done = n;
    kept = words;
  }

  -- the tickets drawn for room k were loaded, with which the exit code ends or the scan goes on
  abbrev pub scanned : ℕ → ℕ → ℕ → ℕ → Shown V → Shown V
  scanned room turn k n v = record v { phase = phases.Peering room turn k n }

  -- the grant of room k was loaded
  abbrev pub peered : ℕ → ℕ → ℕ → ℕ → ℕ → ℕ → Shown V → Shown V
  peered rooms room turn k w n v = record v {
    phase = scan_on rooms room turn k w n;
    grant = n;
    found = None;
  }

  -- the scan is in this phase, and the last grant that it loaded is n
  abbrev pub scanning : Phase → ℕ → Option ℕ → Shown V → Shown V
  scanning phase n found v = record v { phase = phase; grant = n; found = found }

  -- the active word was stored for room k
  abbrev pub passed_on : ℕ → ℕ → Shown V → Shown V
  passed_on turn k v = record v { phase = phases.Counting k 0 None (turn + 1) }

  -- the idle word, or the grant of the room that was chosen, was stored
  abbrev pub went_out : Shown V → Shown V
  went_out v = record v { phase = phases.Out }
