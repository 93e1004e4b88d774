use Rattle.std.proofs.Common.{◌≡◌, ◌-◌, ◌+◌, ◌≤◌, ℕ, List, [], ◌∷◌, ◌++◌, length, take, drop, sym, ap, ◌∙◌, arith}
use Rattle.std.proofs.lemmas.List.{append_assoc, take-append-le, drop-append-le}
use Rattle.std.proofs.lemmas.List.Elements.{All-nil, All-cons}
use Rattle.work_crew.specs.Keeping.{Keeping}
use Rattle.work_crew.proofs.Keeping.{standing}
use Rattle.halving.proofs.twice.Twice.lead.Goals as goal

longer : (kept : Keeping) (done : List ℕ) (at : ℕ) (all more then : List ℕ) → at ≤ length all → then ≡ all ++ more
    → standing at then kept done ≡ record (standing at all kept done) { to_give = drop at all ++ more }
longer kept done at all more then within is =
    ap (λ l. standing at l kept done) is
    ∙ (λ i. record (standing at all kept done) {
      given = take-append-le at all more within i;
      to_give = drop-append-le at all more within i;
    })

pub returns-in_ok-push-2-clause-more : goal.returns-in_ok-push-2-clause-more
returns-in_ok-push-2-clause-more c =
    let i = c.self.inside in
    let x = c.args.item - 1 in
    let led : x + 1 ≡ c.args.item = omega (arith, c.if-item-gt0.true) in
    let both = c.in_ok-push-2.ensures.items ∙ (ap (λ l. l ++ x ∷ []) c.in_ok-push.ensures.items ∙ append_assoc i.all.items (x ∷ []) (x ∷ [])) in
    rw (sym c.self.view_is) (
      x ∷ x ∷ [],
      All-cons (λ y. y + 1 ≡ c.args.item) x (x ∷ []) led (All-cons (λ y. y + 1 ≡ c.args.item) x [] led (All-nil _)),
      longer i.kept i.done.items i.at i.all.items (x ∷ x ∷ []) _ (omega (arith, c.self.invariant, i.all.ok.0)) both,
    )
