-- What going on with a drive by one item leaves.
use Rattle.std.specs.Prelude.{◌≡◌, ℕ, List, [], Option, Some, None}
use Rattle.bay_rule.specs.declared.bay_use.BayUse.{BayUse}
use Rattle.work_pool.specs.Shows.{Worker}
use Rattle.work_pool.specs.Standing.{Standing, Unkeeps}
use Rattle.work_pool.specs.Drives.{Loud}
use Rattle.work_pool.specs.Running.{Runs, Stock, Goes, Asks, Tallies, FindsOut, more_asked}
use Rattle.work_pool.specs.declared.pools.Way.{Way}
use Rattle.work_pool.specs.declared.deeds.Deed.{Deed}
use Rattle.work_pool.specs.declared.drives.Drive.{Drive}
use Rattle.work_pool.specs.declared.steps.Did.{Did}
use Rattle.work_pool.specs.declared.steps.Did.TheVariants.{Handled, Wanting, Quiet, Spent}

-- the work handed out one of the items kept, or it is as it was
abbrev pub MayUnkeep : Standing → Standing → Option ℕ → Type 0
MayUnkeep before now (Some item) = Unkeeps before now (Some item)
MayUnkeep before now None = now ≡ before

-- the worker handled an item, after offers or after none
pub record GoesOn (x : BayUse) (way : Way) (leads : ℕ → ℕ → Type 0) (before now : Worker) (was is : Standing)
    (drive then : Drive) : Type 0 where
  pub run : List Deed
  pub goes : Goes x way leads before now was is run
  pub held : now.caller.user.held ≡ 1
  pub tallies : Tallies drive then run

-- it had an item, and memory was wanting
pub record GoesWanting (x : BayUse) (way : Way) (leads : ℕ → ℕ → Type 0) (before now : Worker)
    (was is : Standing) : Type 0 where
  pub run : List Deed
  pub runs : Runs x way leads before now was is run
  pub loud : Loud before.caller now.caller
  pub asks : Asks before now run 0
  pub held : now.caller.user.held ≡ 0

-- it offered all that was to be given, and had no item
pub record GoesOut (x : BayUse) (way : Way) (leads : ℕ → ℕ → Type 0) (before now : Worker) (was is : Standing)
    (drive then : Drive) (did : Did) : Type 0 where
  pub run : List Deed
  pub runs : Runs x way leads before now was is run
  pub stock : Stock leads was is run
  pub asks : Asks before now run (more_asked did)
  pub none_to_give : is.to_give ≡ []
  pub none_kept : is.kept_items ≡ []
  pub held : now.caller.user.held ≡ 0
  pub finds : FindsOut x did before.caller now.caller
  pub tallies : Tallies drive then run

-- by what it did
abbrev pub Advances : BayUse → Way → (ℕ → ℕ → Type 0) → Worker → Worker → Standing → Standing → Drive → Drive
    → Did → Type 0
Advances x way leads before now was is drive then Handled =
    GoesOn x way leads before now was is drive then
Advances x way leads before now was is drive then (Wanting error) =
    GoesWanting x way leads before now was is
Advances x way leads before now was is drive then did =
    GoesOut x way leads before now was is drive then did
