use Rattle.std.proofs.Common.{arith}
use Rattle.std.proofs.lemmas.Bool.{ne_eqb}
use Rattle.bay_rule.proofs.CanExit.{can_look_last}
use Rattle.bay_store.proofs.key_steps.look_last.Goals as goal

pub key_load-requires-clause-word : goal.key_load-requires-clause-word
key_load-requires-clause-word c = omega (arith, c.requires.last)

pub key_load-requires-clause-can : goal.key_load-requires-clause-can
key_load-requires-clause-can c = can_look_last _ _ _ _ _ _ c.args.word c.requires.last

pub returns-clause-value : goal.returns-clause-value
returns-clause-value c = c.key_load.ensures.shown (ne_eqb _ 3 (λ e. omega (arith, e, c.requires.last)))
