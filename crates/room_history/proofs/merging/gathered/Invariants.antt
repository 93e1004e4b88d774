use Rattle.std.proofs.Common.{◌≡◌, map, take}
use Rattle.room_history.specs.Merging.{given}
use Rattle.room_history.proofs.merging.gathered.Given as goal

abbrev pub invariant-loop-list : goal.invariant-loop-list
invariant-loop-list l =
    l.all.items ≡ given (map (λ list. list.items) (take l.list-index l.per_caller))
