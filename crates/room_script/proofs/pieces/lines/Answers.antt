use Rattle.room_script.proofs.Cuts.{lines_whole, lines_ended, all_bytes}
use Rattle.room_script.proofs.pieces.lines.Goals as goal
use Rattle.room_script.proofs.pieces.lines.Goals.{then-rest+in_ok-push, else-rest}

pub returns : goal.returns
returns c =
    let cut = c.in_ok-pieces in
    let said = rw (all_bytes c.args.text.now) at cut.ensures in
    elim c.if-rest.branch [
      | then-rest+in_ok-push w ↦ rw (w.pieces-is, w.in_ok-push.ensures.items) (lines_whole c.args.text.now cut.pieces.items cut.rest w.if-rest.true said)
      | else-rest w ↦ rw w.pieces-is (lines_ended c.args.text.now cut.pieces.items cut.rest w.if-rest.false said)
    ]
