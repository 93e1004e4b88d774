use Rattle.std.proofs.Common.{◌%◌, arith}
use Rattle.std.proofs.lemmas.Nat.{one_shl}
use Rattle.bit_sets.proofs.Showing.{word_there, word_read, absent_at, put_in}
use Rattle.bit_sets.proofs.bit_set.BitSet.insert.Goals as goal

pub index-was-requires : goal.index-was-requires
index-was-requires c =
    let s = c.self.inside in
    word_there s.len _ c.args.place s.words.items c.args.self.now c.self.invariant c.self.view_is (omega arith)

pub index_mut-requires : goal.index_mut-requires
index_mut-requires c =
    let s = c.self.inside in
    word_there s.len _ c.args.place s.words.items c.args.self.now c.self.invariant c.self.view_is (omega arith)

pub returns-clause-set : goal.returns-clause-set
returns-clause-set c =
    let s = c.self.inside in let set = c.args.self.now in let words = s.words.items in
    put_in s.len c.args.place c.index-was.result.now _ words set c.self.view_is c.requires
    (let there = word_there s.len _ c.args.place words set c.self.invariant c.self.view_is (omega arith) in
    omega (arith, s.words.ok.0))
    (word_read s.len _ c.args.place _ words set c.self.invariant s.words.ok.0 c.self.view_is
    (omega arith) c.index-was.ensures)
    (one_shl (c.args.place % 64) 64 (omega arith))

pub returns-clause-fresh : goal.returns-clause-fresh
returns-clause-fresh c =
    let s = c.self.inside in let set = c.args.self.now in let words = s.words.items in
    absent_at s.len c.args.place c.index-was.result.now words set c.self.view_is c.requires
    (word_read s.len _ c.args.place _ words set c.self.invariant s.words.ok.0 c.self.view_is
    (omega arith) c.index-was.ensures)
