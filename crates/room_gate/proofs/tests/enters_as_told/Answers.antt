use Rattle.std.proofs.Common.{◌≡◌, ◌∙◌, ap, sym, subst}
use Rattle.atomic_table.proofs.Lists.{at_longer}
use Rattle.room_rule.specs.Openings.{IsCovered}
use Rattle.room_gate.specs.Shows.{Waiter, Notice}
use Rattle.room_gate.specs.Entering.{taught}
use Rattle.room_gate.proofs.tests.enters_as_told.Goals as goal

pub unreachable-requires : goal.unreachable-requires
unreachable-requires g c =
    let seen = c.args.inside.now.caller.seen in let covered = c.requires.covered in
    let knows : IsCovered
    (taught c.args.waiting seen).known c.args.waiting.room c.args.waiting.ticket = (
      covered.0,
      (
        covered.1.0,
        at_longer seen c.args.waiting.known covered.0 covered.1.0 covered.1.1,
        covered.1.2,
      ),
    ) in
    let now : c.learn.new.waiting ≡ taught c.args.waiting seen = c.learn.ensures
    ∙ ap (λ (n : Notice). taught c.args.waiting n.openings) c.note-note.ensures.note in
    c.in-NotYet.ensures.as_told
    (subst (λ (w : Waiter _). IsCovered w.known w.room w.ticket) (sym now) knows)
