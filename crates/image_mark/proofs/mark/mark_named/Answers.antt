use Rattle.std.proofs.Common.{◌≡◌, ℕ, ◌+◌, ◌-◌, get_or, sym, arith}
use Rattle.image_mark.proofs.Waiting.{MarksNamed-more, MarksNamed-zero}
use Rattle.image_mark.proofs.mark.mark_named.Goals as goal
use Rattle.image_mark.proofs.mark.mark_named.Goals.{then-word-ne0+in_ok-mark, else-word-ne0}

pub loop-word-preserved : goal.loop-word-preserved
loop-word-preserved c =
    let word : ℕ = get_or c.args.words.now c.loop-word.word-index 0 in
    elim c.if-word-ne0.branch [
      | then-word-ne0+in_ok-mark w ↦
          let same : 1 + (word - 1) ≡ word = omega (arith, w.if-word-ne0.true) in
          rw (w.marks-is, w.waiting-is) (MarksNamed-more c.args.words.now c.loop-word.word-index _ _ _ _ _ _ _ c.loop-word-test.true same c.loop-word.invariant w.in_ok-mark.ensures)
      | else-word-ne0 w ↦
          rw (w.marks-is, w.waiting-is) (MarksNamed-more c.args.words.now c.loop-word.word-index 0 _ _ _ _ _ _ c.loop-word-test.true (sym w.if-word-ne0.false) c.loop-word.invariant (MarksNamed-zero _ _))
    ]
