use Rattle.std.proofs.Common.{List, length, refl, sym, subst}
use Rattle.atomic_table.proofs.Lists.{at_last}
use Rattle.room_rule.specs.Use.{IsAt}
use Rattle.halving.proofs.tests.pools.hand_of.Goals as goal

pub returns : goal.returns
returns c =
    let rest = c.pop.new.self.items in let pass = c.in_ok-pass.pass in
    rw c.new.ensures (c.requires (length rest) pass
    (subst (λ (l : List _). IsAt l (length rest) pass) (sym c.in_ok-pass.ensures.items)
    (at_last rest pass (length rest) refl)))
