use Rattle.std.proofs.Common.{◌-◌, arith}
use Rattle.image_core.proofs.Indexing.{bit-Names, bit_within}
use Rattle.image_core.proofs.index.HeaderIndex.target.Goals as goal

pub rank-requires : goal.rank-requires
rank-requires c =
    let bit = bit-Names _ _ c.args.word c.self.invariant (omega arith) (rw (← c.self.view_is) at c.requires) in
    let within = bit_within c.self.inside.bits (c.args.word - 1) bit in
    omega (arith, within)
