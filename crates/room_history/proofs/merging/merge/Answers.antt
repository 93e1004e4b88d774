use Rattle.std.proofs.Common.{◌≡◌, List, map, Err, subst, sym, ap, ◌∙◌, reverse}
use Rattle.std.specs.List.Sorted.{IsPermutation}
use Rattle.std.proofs.lemmas.List.Sorted.{IsPermutation-trans}
use Rattle.bay_core.specs.declared.calls.Entry.{Entry}
use Rattle.bay_core.specs.Legal.{Ordered}
use Rattle.bay_core.specs.Noted.{entries}
use Rattle.bay_core.proofs.Backwards.{told_in_order}
use Rattle.room_history.specs.Merging.{given, IsLeastTwin}
use Rattle.room_history.specs.declared.merging.MergeFault.TheVariants.{Twin}
use Rattle.room_history.proofs.Twins.{no_twins, twins_moved, twins_back, twin_found, one_least, one_history}
use Rattle.room_history.proofs.Callers.{own_entries}
use Rattle.room_history.proofs.merging.merge.Goals as goal
use Rattle.room_history.proofs.merging.merge.Goals.{After-drop-all, In-None}

-- the first disorder shows the least twins
found : (c : After-drop-all) → IsLeastTwin (given (map (λ list. list.items) c.args.per_caller.now)) c.index.result.now.turn c.index-in-Some.result.now.rank
found c =
    twin_found c.in-Ok.all.items _ c.deref.result.now c.in-Some.i c.index.result.now c.index-in-Some.result.now
    c.in-Ok.ensures.each c.in-Ok.ensures.rising c.deref.ensures.value c.in-Some.ensures c.index.ensures c.index-in-Some.ensures

pub returns-in-Some-clause-twin : goal.returns-in-Some-clause-twin
returns-in-Some-clause-twin c = λ t r no_want.
    let all = given (map (λ list. list.items) c.args.per_caller.now) in
    let turn = c.index.result.now.turn in
    let rank = c.index-in-Some.result.now.rank in (
      λ e.
          let turn_is : turn ≡ t = cc in
          let rank_is : rank ≡ r = cc in
          subst (λ u. IsLeastTwin all u r) turn_is (subst (λ q. IsLeastTwin all turn q) rank_is (found c)),
      λ is. let same = one_least all turn rank t r (found c) is in ap (λ u. Err (Twin u rank)) same.0 ∙ ap (λ q. Err (Twin t q)) same.1,
    )

-- entries that have an order have no twins
never : (c : After-drop-all) (es : List Entry) → Ordered es → IsPermutation es (given (map (λ list. list.items) c.args.per_caller.now)) → ⊥
never c es ordered moved = no_twins es _ _ ordered (twins_back es _ _ _ moved (found c).twins)

pub returns-in-Some-clause-only : goal.returns-in-Some-clause-only
returns-in-Some-clause-only c = λ es ordered moved. absurd (never c es ordered moved)

pub returns-in-Some-clause-history : goal.returns-in-Some-clause-history
returns-in-Some-clause-history c = λ layout blocks h is own.
    absurd (never c (reverse (entries h)) (told_in_order layout blocks h is).legal.ordered (own_entries _ (reverse (entries h)) own))

-- the entries stand in order
ordered_all : (c : In-None) → Ordered c.in-Ok.all.items
ordered_all c = subst Ordered c.deref.ensures.value c.in-None.ensures

pub returns-in-None-clause-twin : goal.returns-in-None-clause-twin
returns-in-None-clause-twin c = λ t r no_want. (
  λ e. cc,
  λ is. absurd (no_twins c.in-Ok.all.items t r (ordered_all c) (twins_moved _ c.in-Ok.all.items t r c.in-Ok.ensures.each is.twins)),
)

-- there is one way to order them
only : (c : In-None) (es : List Entry) → Ordered es → IsPermutation es (given (map (λ list. list.items) c.args.per_caller.now)) → c.in-Ok.all.items ≡ es
only c es ordered moved =
    sym (one_history es c.in-Ok.all.items (IsPermutation-trans es _ c.in-Ok.all.items moved c.in-Ok.ensures.each) ordered (ordered_all c))

pub returns-in-None-clause-only : goal.returns-in-None-clause-only
returns-in-None-clause-only c = only c

pub returns-in-None-clause-history : goal.returns-in-None-clause-history
returns-in-None-clause-history c = λ layout blocks h is own.
    only c (reverse (entries h)) (told_in_order layout blocks h is).legal.ordered (own_entries _ (reverse (entries h)) own)
