use Rattle.std.proofs.Common.{◌≡◌, ◌∙◌, List, [], ◌∷◌, ◌++◌, length, sym, ap, subst, refl, arith, length-append}
use Rattle.atomic_table.proofs.Lists.{at_last}
use Rattle.room_rule.specs.Use.{IsAt}
use Rattle.room_gate.specs.Shows.{newcomer}
use Rattle.drop_box.specs.Box.{new_visit}
use Rattle.drop_box.proofs.tests.only.Goals as goal

pub returns : goal.returns
returns g c =
    let pass = c.in_ok-pass.pass in let rest = c.pop.new.self.items in
    let all_is : c.args.passes.items ≡ rest ++ pass ∷ [] = c.in_ok-pass.ensures.items in
    let long : length (rest ++ pass ∷ []) ≡ 1 = ap length (sym all_is) ∙ c.requires.long in
    let none : length rest ≡ 0 = omega (arith, length-append rest (pass ∷ [])) in
    let there : IsAt c.args.passes.items (length rest) pass =
    subst (λ (l : List _). IsAt l (length rest) pass) (sym all_is) (at_last rest pass (length rest) refl) in
    c.requires.each (length rest) pass there
    ∙ ap (newcomer c.args.drop_box.now.site c.args.draws (λ who. new_visit)) none
