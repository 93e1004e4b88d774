use Rattle.std.proofs.Common.{ℕ, ◌/◌, ◌%◌, eqb, ap, sym, ◌∙◌, arith}
use Rattle.std.specs.Int.{bit_at}
use Rattle.std.specs.Slots.{slots_items}
use Rattle.std.proofs.lemmas.Nat.Bits.{shr_and_one}
use Rattle.mark_words.proofs.Closing.{at_value, reads_more}
use Rattle.mark_words.proofs.closes.read_bits.Goals as goal

pub loop-bit-preserved : goal.loop-bit-preserved
loop-bit-preserved c =
    let inv = c.loop-bit.invariant in let words = slots_items c.args.closed.now.words in
    let bit : ℕ = c.loop-bit.bit in let word = c.word-word.result in
    let there = at_value words (bit / 64) word c.word-word.ensures in
    record {
      read = reads_more words bit c.loop-bit.set.items c.push.new.self.items _
          c.in-Ok.ensures.items
          (ap (λ (n : ℕ). eqb n 1) (shr_and_one word (bit % 64)
          ∙ ap (λ (w : ℕ). bit_at w (bit % 64)) (sym there))) inv.read;
      room = (let r = inv.room in let more = c.push.ensures.capacity in omega arith);
    }
