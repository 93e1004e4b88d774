use Rattle.std.proofs.Common.{◌∙◌, refl, sym, ap}
use Rattle.bay_rule.specs.declared.bay_use.BayUse.{BayUse}
use Rattle.bay_core.specs.declared.calls.Layout.TheVariants.{Split}
use Rattle.bay_store.proofs.Steps.{may_see}
use Rattle.bay_store.proofs.looks.see.Goals as goal

pub load-requires-clause-can : goal.load-requires-clause-can
load-requires-clause-can c =
    may_see _ _ _ _ Split _ _ _ (ap (λ (x : BayUse). x.layout) (sym c.usage.ensures) ∙ (sym c.layout.ensures ∙ c.in-Split.is)) c.requires.room refl c.requires.stage
