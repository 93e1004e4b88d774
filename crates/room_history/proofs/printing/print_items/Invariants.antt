use Rattle.std.proofs.Common.{◌≡◌, ◌++◌, take, string_bytes}
use Rattle.room_history.specs.Prints.{items_text}
use Rattle.room_history.proofs.printing.print_items.Given as goal

abbrev pub invariant-loop-item : goal.invariant-loop-item
invariant-loop-item l =
    string_bytes l.text ≡ string_bytes l.fn.text ++ items_text (take l.item-index l.items)
