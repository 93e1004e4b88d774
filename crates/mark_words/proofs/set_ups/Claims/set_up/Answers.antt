use Rattle.std.proofs.Common.{ℕ, List, [], sym, ◌∙◌, subst}
use Rattle.atomic_table.specs.Table.{opening}
use Rattle.mark_words.specs.Rule.{Ruled}
use Rattle.mark_words.specs.View.{maker}
use Rattle.mark_words.specs.declared.rule.Plan.{Plan}
use Rattle.mark_words.proofs.Steps.{opens}
use Rattle.mark_words.proofs.set_ups.Claims.set_up.Goals as goal

pub of_words-requires : goal.of_words-requires
of_words-requires c =
    let k : Plan = record { bits = c.args.bits; seats = c.args.seats } in
    subst (λ (z : List ℕ). Ruled k (opening z [] (maker k)))
    (sym (c.as_slice.ensures.value ∙ c.in_ok-words.ensures.items_if_clones_equal (λ y e. e))) (opens k)
