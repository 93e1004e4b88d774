use Rattle.std.proofs.Common.{map, sym, ◌∙◌, ap}
use Rattle.std.specs.Option.{option_copied}
use Rattle.room_script.specs.Prints.{active_line, item_line}
use Rattle.room_script.proofs.Texts.{caller_more}
use Rattle.room_script.proofs.printing.print_run.Goals as goal

pub loop-caller-preserved : goal.loop-caller-preserved
loop-caller-preserved c =
    let ran = c.args.ran.now in
    let there = rw c.from.ensures at (sym c.phase.ensures.phase ∙ ap option_copied c.unwrap-in-loop-caller.ensures) in
    caller_more _ _ (map item_line ran.trace.items) (active_line ran.core.words.active) ran.core.phases c.loop-caller.caller c.unwrap-in-loop-caller.result.now there c.loop-caller.invariant c.in_ok-print_caller.ensures
