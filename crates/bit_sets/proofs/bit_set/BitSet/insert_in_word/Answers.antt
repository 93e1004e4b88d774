use Rattle.std.proofs.Common.{◌-◌, ◌%◌, arith}
use Rattle.bit_sets.proofs.Showing.{word_there, word_read}
use Rattle.bit_sets.proofs.Runs.{run_mask, put_run}
use Rattle.bit_sets.proofs.bit_set.BitSet.insert_in_word.Goals as goal

pub index-was-requires : goal.index-was-requires
index-was-requires c =
    let s = c.self.inside in let r = c.requires in
    word_there s.len _ c.args.from s.words.items c.args.self.now c.self.invariant c.self.view_is (omega (arith, r.some, r.within))

pub index_mut-requires : goal.index_mut-requires
index_mut-requires c =
    let s = c.self.inside in let r = c.requires in
    word_there s.len _ c.args.from s.words.items c.args.self.now c.self.invariant c.self.view_is (omega (arith, r.some, r.within))

pub returns : goal.returns
returns c =
    let s = c.self.inside in let r = c.requires in let set = c.args.self.now in let words = s.words.items in
    put_run s.len c.args.from c.args.end c.index-was.result.now _ words set c.self.view_is r.some r.within r.one
    (let there = word_there s.len _ c.args.from words set c.self.invariant c.self.view_is (omega (arith, r.some, r.within)) in
    omega (arith, s.words.ok.0))
    (word_read s.len _ c.args.from _ words set c.self.invariant s.words.ok.0 c.self.view_is
    (omega (arith, r.some, r.within)) c.index-was.ensures)
    (run_mask (c.args.from % 64) (c.args.end - c.args.from) (omega (arith, r.some)) (omega (arith, r.some, r.one)))
