use Rattle.std.proofs.Common.{◌∙◌, ap, sym, arith, ◌++◌, [], ◌∷◌, get_or, length-set}
use Rattle.std.proofs.lemmas.List.{take_more, take_more_set}
use Rattle.bay_store.proofs.items.Items.of.Goals as goal

pub loop-i-preserved : goal.loop-i-preserved
loop-i-preserved c =
    let i = c.loop-i.i in let items = c.args.items.now in let inv = c.loop-i.invariant in
    record {
      long = length-set c.loop-i.room i (get_or items i 0) ∙ inv.long;
      same = take_more_set c.loop-i.room i (get_or items i 0) (omega (arith, inv.long))
          ∙ (ap (λ l. l ++ (get_or items i 0 ∷ [])) inv.same ∙ sym (take_more items i 0 (omega arith)));
    }
