use Rattle.std.proofs.Common.{eqb}
use Rattle.room_script.proofs.Cuts.{HasCut}
use Rattle.room_script.proofs.pieces.cut.Given as goal

abbrev pub invariant-loop-at : goal.invariant-loop-at
invariant-loop-at l = HasCut (λ b. eqb b l.separator) l.text l.whole l.pieces.items l.from l.at
