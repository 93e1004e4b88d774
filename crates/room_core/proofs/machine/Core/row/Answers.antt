use Rattle.std.proofs.Common.{◌≡◌, ◌<◌, ◌∙◌, subst, length, arith}
use Rattle.std.proofs.lemmas.Grind.{common_steps}
use Rattle.std.proofs.lemmas.List.{get_or_default}
use Rattle.room_core.specs.Core.{IsReached}
use Rattle.room_core.specs.Machine.{phase_of}
use Rattle.room_core.specs.declared.phases.Phase.TheVariants.{Out}
use Rattle.room_core.proofs.Reached.{acting_touch}
use Rattle.room_core.proofs.machine.Core.row.Goals as goal

pub returns-clause-touch : goal.returns-clause-touch
returns-clause-touch c =
    let reached : IsReached c.args.self.now = subst IsReached c.self.view_is c.self.invariant in
    let lt : c.args.caller < length c.args.self.now.phases =
    rw (← c.self.view_is) (grind (arith, common_steps)) in
    let at : c.index-phase.result.now ≡ phase_of c.args.self.now c.args.caller =
    rw (← c.self.view_is)
    (c.index-phase.ensures
    ∙ get_or_default c.self.inside.phases.items c.args.caller c.index-phase.result.now Out
    (grind (arith, common_steps))) in
    acting_touch c.args.self.now c.args.caller c.index-phase.result.now c.args.act c.acting.result
    reached lt at c.acting.ensures
