-- Calls that are timed.
use Rattle.std.specs.Prelude.{◌≡◌, ℕ, ◌+◌, ◌*◌, ◌/◌, ◌≤◌}
use Rattle.atomic_table.specs.Seated.{TableId}
use Rattle.room_gate.specs.Shows.{Caller}
use Rattle.bay_core.specs.declared.calls.Layout.{Layout}
use Rattle.bay_core.specs.declared.calls.Layout.TheVariants.{Split, Paged}
use Rattle.bay_rule.specs.declared.views.BayView.{BayView}

-- the calls by which one caller puts so many items, in whole runs alone, and takes as many
abbrev pub calls_of : ℕ → ℕ → ℕ
calls_of items run = 2 * (items / run * run)

-- So many of these calls had an answer with an entry: all, where each call makes one draw. Where blocks
-- change hands, a call may use up draws.
abbrev pub HadEntries : Layout → ℕ → ℕ → Type 0
HadEntries Split calls made = made ≡ calls
HadEntries Paged calls made = made ≤ calls

-- a pass of the set-up that may put an item, and where no call overflows has so many draws left
pub record CanCall (layout : Layout) (site : TableId) (left : ℕ) (pass : Caller BayView) : Type 0 where
  pub own : pass.site ≡ site
  pub share : 1 ≤ pass.user.held
  pub draws : layout ≡ Split → pass.draws + left ≤ pass.limit

-- the caller made so many calls by so many draws, and counted those with an entry: where no call
-- overflows, all
pub record Repeats (layout : Layout) (draws calls : ℕ) (before now : Caller BayView) (made : ℕ) : Type 0 where
  pub site : now.site ≡ before.site
  pub limit : now.limit ≡ before.limit
  pub share : 1 ≤ now.user.held
  pub few : made ≤ calls
  pub all : layout ≡ Split → (made ≡ calls) × (now.draws ≡ before.draws + draws)
