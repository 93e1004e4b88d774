-- What the calls of a script leave of their caller.
use Rattle.std.specs.Prelude.{◌≡◌, ℕ, ◌+◌, ◌⊎◌, List, length, map, take}
use Rattle.room_gate.specs.Shows.{Caller}
use Rattle.bay_core.specs.declared.calls.Layout.{Layout}
use Rattle.bay_core.specs.declared.calls.Layout.TheVariants.{Split, Paged}
use Rattle.bay_core.specs.declared.calls.Entry.{Entry}
use Rattle.bay_rule.specs.declared.bay_use.BayUse.{BayUse}
use Rattle.bay_rule.specs.declared.views.BayView.{BayView}
use Rattle.work_pool.specs.Gaining.{Gains, HearsNothing}
use Rattle.room_script.specs.declared.trials.Line.{Line}
use Rattle.room_trial.specs.Scripts.{asked, called, items_taken}

-- so often calls may overflow: where blocks change hands alone
abbrev pub MayOverflow : Layout → ℕ → Type 0
MayOverflow Split again = again ≡ 0
MayOverflow Paged again = Unit {0}

-- A caller's calls of a script's lines, with the entries es.
pub record Answers (x : BayUse) (lines : List Line) (before now : Caller BayView) (es : List Entry)
    : Type 0 where
  -- they are of the first lines, in order, each once
  pub answered : map called es ≡ take (length es) (map asked lines)
  -- of all lines, or no draw is left
  pub whole : (length es ≡ length lines) ⊎ (now.draws ≡ now.limit)
  -- its own calls gained these entries, with a draw for each, and one for each overflow
  pub gains : Gains x before now es
  pub again : ℕ
  pub overflows : MayOverflow x.layout again
  pub drawn : now.draws ≡ before.draws + length es + again
  pub spills : now.user.spilled + now.user.overran ≡ before.user.spilled + before.user.overran + again
  -- it has the share of each item that it took, and made no load of `live`
  pub held : now.user.held ≡ before.user.held + items_taken es
  pub hears : HearsNothing before now
