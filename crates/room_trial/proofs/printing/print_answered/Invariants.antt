use Rattle.std.proofs.Common.{◌≡◌, map, string_bytes}
use Rattle.room_trial.specs.Texts.{answered_below}
use Rattle.room_trial.proofs.printing.print_answered.Given as goal

abbrev pub invariant-loop-caller : goal.invariant-loop-caller
invariant-loop-caller l =
    string_bytes l.text
    ≡ answered_below (map (λ list. list.items) l.lists) (map (λ script. script.items) l.scripts) l.caller
