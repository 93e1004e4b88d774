-- What a handful's draw leaves of its caller.
use Rattle.std.proofs.Common.{◌≡◌, ◌∙◌, ℕ, ◌≤◌, inl, inr, List, length, ap, sym, arith}
use Rattle.bay_core.specs.History.{own}
use Rattle.bay_rule.specs.declared.bay_use.BayUse.{BayUse}
use Rattle.bay_rule.specs.declared.views.BayView.{BayView}
use Rattle.bay_store.specs.Handfuls.{DrawsSome}
use Rattle.bay_store.specs.declared.receipts.Stop.{Stop}

module _ (x : BayUse) (items : List ℕ) (who turn rank stored : ℕ) (stop : Stop) (v w : BayView)
    (d : DrawsSome x items who turn rank stored stop v w) where
  -- no more are stored than there are
  pub few_stored : stored ≤ length items
  few_stored = omega (arith, d.cells)

  -- its own calls are still those of its number
  pub still_own : v.mine ≡ own who v.seen → w.mine ≡ own who w.seen
  still_own mine = elim d.gains [
    | inl g ↦ g.all_mine
    | inr g ↦ g.1.mine ∙ (mine ∙ ap (own who) (sym g.1.seen))
  ]
