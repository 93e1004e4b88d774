use Rattle.std.proofs.Common.{◌≡◌, ℕ, Bool, eqb, eq-eqb, arith}
use Rattle.std.proofs.lemmas.Bool.Decides.{nat_tests}
use Rattle.room_script.proofs.Cuts.{cut_over, cut_at, cut_all}
use Rattle.room_script.proofs.pieces.cut.Goals as goal
use Rattle.room_script.proofs.pieces.cut.Goals.{then-text-at+in_ok-push, else-text-at}

pub loop-at-preserved : goal.loop-at-preserved
loop-at-preserved c =
    let cut = c.loop-at in
    let separates : ℕ → Bool = λ b. eqb b c.args.separator in
    elim c.if-text-at.branch [
      | then-text-at+in_ok-push w ↦ rw (w.pieces-is, w.from-is, w.in_ok-push.ensures.items)
          (cut_at separates c.args.text.now c.args.whole c.requires cut.pieces.items cut.from cut.at cut.invariant c.loop-at-test.true (eq-eqb _ _ w.if-text-at.true))
      | else-text-at w ↦ rw (w.pieces-is, w.from-is)
          (cut_over separates c.args.text.now c.args.whole c.requires cut.pieces.items cut.from cut.at cut.invariant c.loop-at-test.true (grind (arith, nat_tests)))
    ]

pub returns : goal.returns
returns c =
    let separates : ℕ → Bool = λ b. eqb b c.args.separator in
    let end : c.loop-at.at ≡ c.args.whole.to = omega arith in
    cut_all separates c.args.text.now c.args.whole c.requires c.loop-at.pieces.items c.loop-at.from (rw end at c.loop-at.invariant)
