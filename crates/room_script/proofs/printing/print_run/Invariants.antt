use Rattle.std.proofs.Common.{◌≡◌, ◌∷◌, ◌++◌, map, take, string_bytes}
use Rattle.room_script.specs.Prints.{active_line, item_line, caller_lines, text_of}
use Rattle.room_script.proofs.printing.print_run.Given as goal

abbrev pub invariant-loop-item : goal.invariant-loop-item
invariant-loop-item l = string_bytes l.text ≡ text_of (map item_line (take l.item-index l.item-items))

abbrev pub invariant-loop-caller : goal.invariant-loop-caller
invariant-loop-caller l =
    string_bytes l.text ≡ text_of (map item_line l.ran.trace.items ++ active_line l.ran.core.words.active ∷ caller_lines 0 (take l.caller l.ran.core.phases))
