use Rattle.std.proofs.Common.{arith}
use Rattle.bit_sets.proofs.Showing.{word_there, word_read, read_at}
use Rattle.bit_sets.proofs.bit_set.BitSet.contains.Goals as goal

pub index-requires : goal.index-requires
index-requires c =
    let s = c.self.inside in
    word_there s.len _ c.args.place s.words.items c.args.self.now c.self.invariant c.self.view_is (omega arith)

pub returns : goal.returns
returns c =
    let s = c.self.inside in let set = c.args.self.now in let words = s.words.items in
    read_at s.len c.args.place c.index.result.now words set c.self.view_is c.requires
    (word_read s.len _ c.args.place _ words set c.self.invariant s.words.ok.0 c.self.view_is
    (omega arith) c.index.ensures)
