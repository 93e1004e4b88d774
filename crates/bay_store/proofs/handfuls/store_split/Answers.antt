use Rattle.std.proofs.Common.{◌∙◌, ◌+◌, refl, ap, arith}
use Rattle.room_gate.specs.Shows.{Insider}
use Rattle.bay_core.specs.declared.calls.Layout.TheVariants.{Split}
use Rattle.bay_rule.specs.declared.views.BayView.{BayView}
use Rattle.bay_rule.proofs.Answering.{filling_at}
use Rattle.bay_store.proofs.FillingSome.{may_fill}
use Rattle.bay_store.proofs.Words.{split_word}
use Rattle.bay_store.proofs.handfuls.store_split.Goals as goal

pub store-requires-clause-word : goal.store-requires-clause-word
store-requires-clause-word c = split_word _ _ _ c.requires.split (omega (arith, c.requires.below (omega arith)))

pub store-requires-clause-can : goal.store-requires-clause-can
store-requires-clause-can c =
    may_fill _ _ _ _ Split _ _ _ _ _ c.requires.split
    (ap (λ (i : Insider (Unit {0}) BayView). i.opening.room) c.loop-i.invariant.same ∙ c.requires.room)
    refl
    (c.loop-i.invariant.stage ∙ filling_at (c.args.place + c.loop-i.i) c.loop-i.i c.args.items.now (omega arith))
