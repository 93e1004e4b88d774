use Rattle.std.proofs.Common.{ap, arith}
use Rattle.room_gate.specs.Shows.{Caller}
use Rattle.bay_rule.specs.declared.views.BayView.{BayView}
use Rattle.bay_store.proofs.Shares.{has_share, few_shares}
use Rattle.bay_store.proofs.bays.Bay.go_in.Goals as goal

pub pledge-held-requires-clause-some : goal.pledge-held-requires-clause-some
pledge-held-requires-clause-some g c = λ some.
    let share = has_share c.args.wish.now _ c.requires.may (omega (arith, some, c.shares_of.ensures)) in
    let held_is = c.pass.invariant.rests.held_is in
    omega (arith, share, held_is, ap (λ (p : Caller BayView). p.user.held) c.pass.view_is)

pub pledge-held-requires-clause-few : goal.pledge-held-requires-clause-few
pledge-held-requires-clause-few g c = omega (arith, c.shares_of.ensures, few_shares c.args.wish.now _ c.requires.may)
