use Rattle.std.proofs.Common.{sym, subst, rules}
use Rattle.room_core.specs.Core.{IsReached}
use Rattle.room_core.specs.Machine.{State, Row, after}
use Rattle.room_core.proofs.Reached.{reached_step}
use Rattle.room_core.proofs.Refusing.{refuses}
use Rattle.room_core.proofs.machine.Core.step.Goals as goal

pub invariant_of-self : goal.invariant_of-self
invariant_of-self c =
    let row : Row = (c.in_ok-next.next, c.in_ok-next.event) in
    let reached : IsReached c.args.self.now = subst IsReached c.self.view_is c.self.invariant in
    let next : IsReached (after c.args.self.now c.args.caller c.args.act row) =
    reached_step c.args.self.now c.args.caller c.args.act row reached
    (sym c.in_ok-next.ensures.row) in
    let F : State → Type 0 = λ s. IsReached (after s c.args.caller c.args.act row) in
    rw (c.apply.ensures, c.count_draw.ensures) (subst F (sym c.self.view_is) next)

pub returns-in_err-next-clause-refused : goal.returns-in_err-next-clause-refused
returns-in_err-next-clause-refused c =
    refuses c.args.self.now c.args.caller c.args.act c.from_residual.result (search rules)
