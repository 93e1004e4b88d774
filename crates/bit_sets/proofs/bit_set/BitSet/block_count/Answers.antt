use Rattle.std.proofs.Common.{◌≡◌, length, ap, arith}
use Rattle.bit_sets.specs.Bits.{bits_of}
use Rattle.bit_sets.proofs.Showing.{length_shown}
use Rattle.bit_sets.proofs.Counting.{rank_whole}
use Rattle.bit_sets.proofs.bit_set.BitSet.block_count.Goals as goal

pub index-word-requires : goal.index-word-requires
index-word-requires c =
    let s = c.self.inside in let l = length_shown s.len s.words.items in
    let e : length (bits_of s.len s.words.items) ≡ length c.args.self.now = ap length c.self.view_is in
    omega (arith, c.self.invariant)

pub returns : goal.returns
returns c =
    let s = c.self.inside in
    rank_whole s.len c.args.block c.index-word.result.now _ s.words.items c.args.self.now c.self.invariant
    s.words.ok.0 c.self.view_is c.requires c.index-word.ensures (omega arith)
