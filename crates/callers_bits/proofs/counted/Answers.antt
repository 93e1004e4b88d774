use Rattle.std.proofs.Common.{◌≡◌, false, List, subst, arith}
use Rattle.std.specs.Prelude.{Bool, IfOk}
use Rattle.std.proofs.lemmas.List.{ext_get_or}
use Rattle.callers_bits.proofs.counted.Goals as goal

-- the set that was made has each mark
pub returns : goal.returns
returns c =
    let marks = c.args.marks.now in let set = c.loop-place.set in let inv = c.loop-place.invariant in
    subst (λ (l : List Bool). IfOk c.from_bits.result (λ made. made ≡ l))
    (ext_get_or false set marks inv.long (λ i below. inv.done i (omega arith))) c.from_bits.ensures
