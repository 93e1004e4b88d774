use Rattle.std.proofs.Common.{◌≡◌, ℕ, IfSome, List, ◌++◌, length, Option, Some, None, sym, subst, refl}
use Rattle.std.specs.Option.{option_to_list}
use Rattle.atomic_table.specs.Seated.{TableId}
use Rattle.atomic_table.proofs.Lists.{at_last, at_longer}
use Rattle.mark_words.specs.Rule.{IsAt}
use Rattle.mark_words.specs.Shows.{Claimant}
use Rattle.callers_claims.proofs.tests.taken.Goals as goal

-- the last of them is of these claims too
last_is : (site : TableId) (all rest : List Claimant) (r : Option Claimant) → all ≡ rest ++ option_to_list r
    → ((i : ℕ) (s : Claimant) → IsAt all i s → s.site ≡ site) → IfSome r (λ s. s.site ≡ site)
last_is site all rest (Some s) is each =
    each (length rest) s (subst (λ l. IsAt l (length rest) s) (sym is) (at_last rest s (length rest) refl))
last_is site all rest None is each = tt

pub returns-clause-own : goal.returns-clause-own
returns-clause-own c = last_is _ _ c.pop.new.self.items c.pop.result c.pop.ensures.items c.requires

pub returns-clause-rest : goal.returns-clause-rest
returns-clause-rest c i s at =
    c.requires i s (subst (λ l. IsAt l i s) (sym c.pop.ensures.items)
    (at_longer c.pop.new.self.items (option_to_list c.pop.result) i s at))
