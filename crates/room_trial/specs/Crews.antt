-- What callers that run together bring back.
use Rattle.std.specs.Prelude.{◌≡◌, ℕ, ◌<◌, ◌≤◌, List, [], slice_index_or, IfOk}
use Rattle.atomic_table.specs.Seated.{TableId}
use Rattle.room_gate.specs.Shows.{Caller}
use Rattle.bay_rule.specs.declared.bay_use.BayUse.{BayUse}
use Rattle.bay_rule.specs.declared.views.BayView.{BayView}
use Rattle.room_script.specs.declared.trials.Line.{Line}
use Rattle.room_trial.specs.Callers.{Answers}
use Rattle.room_trial.specs.declared.callers.CallerEnd.{CallerEnd}

-- a pass of the set-up of so many callers that may put an item
pub record IsReady (site : TableId) (callers : ℕ) (pass : Caller BayView) : Type 0 where
  pub own : pass.site ≡ site
  pub who : pass.who < callers
  pub share : 1 ≤ pass.user.held

-- a caller made the calls of its script among those of all, if it found memory
abbrev pub EndsWell : BayUse → List (List Line) → Caller BayView → CallerEnd → Type 0
EndsWell x scripts pass end =
    IfOk end.entries (λ es. Answers x (slice_index_or scripts pass.who []) pass end.pass es.items)
