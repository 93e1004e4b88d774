use Rattle.std.proofs.Common.{◌<◌, ◌++◌, ℕ, length, map, sym, ap, ◌∙◌, arith}
use Rattle.room_trial.specs.Texts.{answered_line, answered_below}
use Rattle.room_trial.proofs.Texts.{one_line_more, read_length}
use Rattle.room_trial.proofs.printing.print_answered.Goals as goal

pub loop-caller-preserved : goal.loop-caller-preserved
loop-caller-preserved c =
    let i = c.loop-caller.caller in
    let own = c.index-lists-caller in let script = c.index-scripts-caller in
    let within : i < length c.args.lists.now = omega (arith, c.requires, c.loop-caller-test.true) in
    let answered = read_length c.args.lists.now i c.len.result own.result within
    (omega (arith, c.len.ensures, own.result.ok.0, ap (λ list. length list.items) own.is)) in
    let lines = read_length c.args.scripts.now i c.len-in-loop-caller.result script.result c.loop-caller-test.true
    (omega (arith, c.len-in-loop-caller.ensures, script.result.ok.0, ap (λ list. length list.items) script.is)) in
    let below = answered_below (map (λ list. list.items) c.args.lists.now) (map (λ script. script.items) c.args.scripts.now) in
    c.in_ok-print_caller.ensures
    ∙ (ap (λ text. text ++ answered_line i c.len.result c.len-in-loop-caller.result) c.loop-caller.invariant
    ∙ (ap (λ (n : ℕ × ℕ). below i ++ answered_line i n.0 n.1) (λ j. (answered j, lines j))
    ∙ sym (one_line_more (map (λ list. list.items) c.args.lists.now) (map (λ script. script.items) c.args.scripts.now) i)))
