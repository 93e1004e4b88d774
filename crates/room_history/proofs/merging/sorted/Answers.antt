use Rattle.std.proofs.Common.{ℕ, rules}
use Rattle.std.proofs.lemmas.Fn.{always_returns_same}
use Rattle.bay_core.specs.declared.calls.Entry.{Entry}
use Rattle.room_history.proofs.Twins.{rising_sorted}
use Rattle.room_history.proofs.merging.sorted.Goals as goal

pub returns-clause-rising : goal.returns-clause-rising
returns-clause-rising c =
    let key : Entry → ℕ × ℕ = λ e. (e.turn, e.rank) in
    rising_sorted c.sort_by_key.new.self.items (c.in_ok-sort_by_key.ensures.sorted key (always_returns_same _ _ _ (λ a r f k. search rules)))
