use Rattle.std.proofs.Common.{subst}
use Rattle.bay_store.specs.declared.wishes.Wish.TheVariants.{Several}
use Rattle.bay_store.specs.Asking.{GoesInto}
use Rattle.bay_store.proofs.LeavingSome.{puts, once}
use Rattle.bay_store.proofs.bays.Bay.push_once.Goals as goal

pub returns-in-Ok : goal.returns-in-Ok
returns-in-Ok g c =
    let goes = subst (λ l. GoesInto c.args.pass (Several l) (record { insider = c.in-Ok.field-0.inside; wish = Several c.of.result })) c.of.ensures c.in-Ok.ensures.inside.1 in
    once _ _ _ _ _ _ (puts _ _ _ _ _ goes c.leave.ensures.same c.args.self.now.usage c.act_some-done.ensures c.in-Ok.ensures.inside.0)
