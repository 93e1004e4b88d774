-- A pass by its fields.
use Rattle.std.specs.Prelude.{◌≡◌, ℕ, ◌≤◌, ◌^◌, Option, []}
use Rattle.atomic_table.specs.declared.shared.Seat.{Seat}
use Rattle.room_core.specs.declared.phases.Phase.TheVariants.{Out}
use Rattle.room_rule.specs.declared.views.Role.TheVariants.{Pass}
use Rattle.room_rule.specs.declared.views.Shown.{Shown}
use Rattle.room_gate.specs.Shows.{Caller}
use Rattle.room_gate.specs.declared.passes.Pass.TheInside.{Inside}

-- what a caller's seat shows, with what its token carries
abbrev pub seen_of : {S V : Type 0} → Seat (Option S) (Shown V) → ℕ → ℕ → ℕ → Caller V
seen_of seat who draws limit = record {
  site = seat.table_id;
  who = who;
  draws = draws;
  limit = limit;
  user = seat.me.0.user;
  seen = seat.me.0.seen;
  first = seat.me.0.first;
  loads = seat.me.0.loads;
  done = seat.me.0.done;
}

-- the token carries what its seat shows
pub record IsOf {S V : Type 0} (seat : Seat (Option S) (Shown V))
    (number drawn most : ℕ) : Type 0 where
  pub role : seat.me.0.role ≡ Pass
  pub who : seat.me.0.who ≡ number
  pub draws : seat.me.0.draws ≡ drawn
  pub limited : drawn ≤ most
  pub small : most ≤ 2 ^ 48

-- what a pass shows
abbrev pub caller_of : {X S V : Type 0} → Inside X V S → Caller V
caller_of p = seen_of p.seat p.who p.draws p.limit

-- what holds of each pass
pub record IsOut {X S V : Type 0} (p : Inside X V S) : Type 0 where
  pub of : IsOf p.seat p.who p.draws p.limit
  pub phase : p.seat.me.0.phase ≡ Out
  pub no_slot : p.seat.me.1 ≡ []
