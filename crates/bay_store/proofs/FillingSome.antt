-- The steps of a handful may be made, in a room whose number is known.
use Rattle.std.proofs.Common.{◌≡◌, ℕ, ◌∷◌, List, None, sym, subst}
use Rattle.room_rule.specs.Steps.{CanStep}
use Rattle.bay_core.specs.declared.calls.Layout.{Layout}
use Rattle.bay_rule.specs.declared.bay_use.BayUse.{BayUse}
use Rattle.bay_rule.specs.declared.views.Stage.TheVariants.{Filling}
use Rattle.bay_rule.specs.declared.views.BayView.{BayView}
use Rattle.bay_rule.specs.Bay.{bay}
use Rattle.bay_rule.specs.Told.{of_users, fill_told}
use Rattle.bay_rule.proofs.CanCells.{KnowsPlace, can_fill}

-- the store of the first item that is left
pub may_fill : (x : BayUse) (t who : ℕ) (v : BayView) (layout : Layout) (p item word room : ℕ) (rest : List ℕ)
    → x.layout ≡ layout → room ≡ 0 → KnowsPlace layout v p word → v.stage ≡ Filling p (item ∷ rest)
    → CanStep bay x who v word (λ _. item) room t None (λ _. Unit {0}) (of_users (fill_told p))
may_fill x t who v layout p item word room rest e f k s =
    subst (λ r. CanStep bay x who v word (λ _. item) r t None (λ _. Unit {0}) (of_users (fill_told p))) (sym f)
    (can_fill x t who v p item word rest (subst (λ l. KnowsPlace l v p word) (sym e) k) s)
