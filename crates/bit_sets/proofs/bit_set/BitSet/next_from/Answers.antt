use Rattle.std.proofs.Common.{◌+◌, ◌%◌, ◌∙◌, arith}
use Rattle.std.proofs.lemmas.Nat.{and_le_r}
use Rattle.std.proofs.lemmas.Nat.Bits.{ones_shl}
use Rattle.std.proofs.lemmas.List.{get_or_read}
use Rattle.bit_sets.proofs.Showing.{word_there, word_read}
use Rattle.bit_sets.proofs.Seeking.{begins, passes, no_next, is_next, past_next}
use Rattle.bit_sets.proofs.bit_set.BitSet.next_from.Goals as goal

pub index-requires : goal.index-requires
index-requires c =
    let s = c.self.inside in
    word_there s.len _ c.args.place s.words.items c.args.self.now c.self.invariant c.self.view_is c.requires

pub loop-rest-init : goal.loop-rest-init
loop-rest-init c =
    let s = c.self.inside in let set = c.args.self.now in let words = s.words.items in
    record {
      within = word_there s.len _ c.args.place words set c.self.invariant c.self.view_is c.requires;
      fits = omega (arith, and_le_r);
      sought = begins words c.args.place c.index.result.now _
          (word_read s.len _ c.args.place _ words set c.self.invariant s.words.ok.0 c.self.view_is
          c.requires c.index.ensures)
          (ones_shl 64 (c.args.place % 64) (omega arith));
    }

pub loop-rest-preserved : goal.loop-rest-preserved
loop-rest-preserved c =
    let s = c.self.inside in let words = s.words.items in let h = c.loop-rest in
    record {
      within = omega arith;
      fits = omega arith;
      sought = passes words c.args.place h.block h.rest c.index-rest.result.now c.loop-rest-test.true
          (get_or_read words (h.block + 1) _ (omega (arith, s.words.ok.0)) c.index-rest.ensures 0)
          h.invariant.sought;
    }

pub returns-then-block-len-clause-none : goal.returns-then-block-len-clause-none
returns-then-block-len-clause-none c =
    let s = c.self.inside in let h = c.loop-rest in
    no_next s.len _ c.args.place h.block h.rest s.words.items c.args.self.now c.self.invariant
    c.self.view_is (c.if-block-len.true ∙ c.len.ensures) c.loop-rest-test.true h.invariant.sought

pub returns-then-bit-len-clause-found : goal.returns-then-bit-len-clause-found
returns-then-bit-len-clause-found c =
    let s = c.self.inside in let h = c.loop-rest in
    is_next s.len c.args.place h.block h.rest s.words.items c.args.self.now c.self.view_is
    h.invariant.sought (omega (arith, c.loop-rest-test.false)) h.invariant.fits c.if-bit-len.true

pub returns-else-bit-len-clause-none : goal.returns-else-bit-len-clause-none
returns-else-bit-len-clause-none c =
    let s = c.self.inside in let h = c.loop-rest in
    past_next s.len c.args.place h.block h.rest s.words.items c.args.self.now c.self.view_is
    h.invariant.sought (omega (arith, c.loop-rest-test.false)) h.invariant.fits c.if-bit-len.false
