use Rattle.std.proofs.Common.{◌%◌, arith}
use Rattle.std.proofs.lemmas.Nat.{one_shl}
use Rattle.bit_sets.proofs.Showing.{word_there}
use Rattle.bit_sets.proofs.Counting.{rank_below}
use Rattle.bit_sets.proofs.bit_set.BitSet.block_rank.Goals as goal

pub index-requires : goal.index-requires
index-requires c =
    let s = c.self.inside in
    word_there s.len _ c.args.place s.words.items c.args.self.now c.self.invariant c.self.view_is c.requires

pub returns : goal.returns
returns c =
    let s = c.self.inside in
    rank_below s.len c.args.place c.index.result.now _ _ s.words.items c.args.self.now c.self.invariant
    s.words.ok.0 c.self.view_is c.requires c.index.ensures (one_shl (c.args.place % 64) 64 (omega arith))
