use Rattle.std.proofs.Common.{◌∙◌, get_or, sym, subst, arith}
use Rattle.std.proofs.lemmas.List.{take_more}
use Rattle.work_pool.specs.Running.{KeepsSome}
use Rattle.work_pool.proofs.OfferingSome.{keeps_more}
use Rattle.work_pool.proofs.offers_some.keep_all.Goals as goal

pub loop-i-preserved : goal.loop-i-preserved
loop-i-preserved g c =
    let h = c.loop-i.invariant in let k = c.keep.ensures in let items = c.args.items.now in let i = c.loop-i.i in
    record {
      keeps = subst (λ l. KeepsSome l (g.W.Work.stands c.args.work.now) (g.W.Work.stands c.keep.new.self)) (sym (take_more items i 0 (omega arith)))
          (keeps_more _ (get_or items i 0) (g.W.Work.stands c.args.work.now) (g.W.Work.stands c.loop-i.work) (g.W.Work.stands c.keep.new.self) h.keeps k.keeps);
      leads = λ y x. (λ l. (h.leads y x).0 ((k.leads y x).0 l), λ l. (k.leads y x).1 ((h.leads y x).1 l));
      made = k.made ∙ h.made;
    }
