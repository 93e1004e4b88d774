use Rattle.std.proofs.Common.{◌≡◌, ◌*◌}
use Rattle.bit_sets.specs.Rank.{rank}
use Rattle.bit_sets.specs.RankedModel.{Counts}
use Rattle.bit_sets.proofs.ranked_bits.RankedBits.from_bits.Given as goal

-- the blocks before this one are counted
abbrev pub invariant-loop-block : goal.invariant-loop-block
invariant-loop-block l = record {
  total : l.total ≡ rank l.fn.set (64 * l.block);
  counts : Counts l.fn.set l.block l.before.items;
}
