-- What calls through a pool leave of their caller, under any layout of its bay.
use Rattle.std.specs.Prelude.{◌≡◌, ℕ, ◌≤◌, ◌⊎◌, List, [], ◌∷◌, ◌++◌, IfSome}
use Rattle.room_gate.specs.Shows.{Caller}
use Rattle.bay_core.specs.declared.calls.Entry.{Entry}
use Rattle.bay_core.specs.declared.calls.Noted.{Noted}
use Rattle.bay_core.specs.Noted.{after}
use Rattle.bay_core.specs.History.{IsHistory, own, GoesOn}
use Rattle.bay_rule.specs.declared.bay_use.BayUse.{BayUse}
use Rattle.bay_rule.specs.declared.views.BayView.{BayView}
use Rattle.bay_rule.specs.Newest.{EmptySince}
use Rattle.bay_core.specs.Told.{told}

-- the history leaves no item in either list
abbrev pub IsEmptied : List Noted → Type 0
IsEmptied h = ((after h).stack ≡ []) × ((after h).queue ≡ [])

-- the newest call of the history is this caller's
abbrev pub EndsWith : ℕ → List Noted → Type 0
EndsWith who [] = ⊥
EndsWith who (n ∷ h) = n.who ≡ who

-- The caller has seen a legal history of its bay, which ends with a call of its own or leaves both lists
-- empty; and since it first found the bay quiet, each call was answered empty.
pub record Sees (x : BayUse) (caller : Caller BayView) : Type 0 where
  pub legal : IsHistory x.layout x.blocks caller.user.seen
  pub ends : EndsWith caller.who caller.user.seen ⊎ IsEmptied caller.user.seen
  pub since : IfSome caller.user.quiet_at (λ k. EmptySince k caller.user.seen)

-- it has seen no more than before, or such a history
abbrev pub SeesOn : BayUse → Caller BayView → Caller BayView → Type 0
SeesOn x before now =
    ((now.user.seen ≡ before.user.seen) × (now.user.quiet_at ≡ before.user.quiet_at)) ⊎ Sees x now

-- The caller knows that its bay is quiet for good: the history that it has seen is legal and leaves both
-- lists empty, and since it first found the bay quiet, each call was answered empty. It holds no share.
pub record KnowsQuiet (x : BayUse) (caller : Caller BayView) : Type 0 where
  pub legal : IsHistory x.layout x.blocks caller.user.seen
  pub none : IsEmptied caller.user.seen
  pub since : IfSome caller.user.quiet_at (λ k. EmptySince k caller.user.seen)
  pub no_share : caller.user.held ≡ 0

-- the caller has made no load of `live`
pub record HearsNothing (before now : Caller BayView) : Type 0 where
  pub quiet_at : now.user.quiet_at ≡ before.user.quiet_at
  pub loads : now.user.loads ≡ before.user.loads
  pub bare_loads : now.user.bare_loads ≡ before.user.bare_loads
  pub live : now.user.live ≡ before.user.live

-- Calls with these entries, by their caller before and now, but for its shares and what it heard of
-- `live`.
pub record Gains (x : BayUse) (before now : Caller BayView) (entries : List Entry) : Type 0 where
  -- it is the same caller of the same bay
  pub site : now.site ≡ before.site
  pub who : now.who ≡ before.who
  pub limit : now.limit ≡ before.limit
  -- it made draws, no more than it may, and no entry without one
  pub draws : before.draws ≤ now.draws
  pub limited : now.draws ≤ now.limit
  pub drawn : now.draws ≡ before.draws → entries ≡ []
  -- the history that it has seen goes on, and its own calls gained these entries in it, in their order
  pub goes_on : GoesOn now.user.seen before.user.seen
  pub mine : now.user.mine ≡ own before.who now.user.seen
  pub gained : told before.who now.user.seen ≡ told before.who before.user.seen ++ entries
  pub sees : SeesOn x before now
