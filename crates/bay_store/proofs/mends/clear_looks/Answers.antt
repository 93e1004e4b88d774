use Rattle.std.proofs.Common.{◌∙◌, ap, arith}
use Rattle.bay_rule.specs.Words.{looks_of}
use Rattle.bay_store.proofs.KeySteps.{may_clear}
use Rattle.bay_store.proofs.mends.clear_looks.Goals as goal

pub put-requires-clause-can : goal.put-requires-clause-can
put-requires-clause-can c =
    may_clear _ _ _ _ _ c.look_last-looks.ensures.same (c.looks_word-word.ensures ∙ ap (λ x. looks_of x) c.usage.ensures) c.look_last-looks.ensures.value (omega arith)
