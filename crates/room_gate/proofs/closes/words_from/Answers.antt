use Rattle.std.proofs.Common.{ℕ, ◌+◌, ◌-◌, drop, arith}
use Rattle.std.specs.Slots.{slots_items}
use Rattle.room_gate.proofs.Closing.{pushed_on, at_dropped}
use Rattle.room_gate.proofs.closes.words_from.Goals as goal

pub loop-place-preserved : goal.loop-place-preserved
loop-place-preserved g c =
    let inv = c.loop-place.invariant in let place : ℕ = c.loop-place.place in
    let from : ℕ = c.args.from in let all = slots_items c.args.closed.now.words in
    let low = inv.low in
    record {
      low = omega arith;
      copied = pushed_on (drop from all) c.loop-place.words.items c.push.new.self.items
          (place - from) (place + 1 - from) c.word.result (omega arith) c.in-Ok.ensures.items
          inv.copied (at_dropped all from (place - from) place c.word.result (omega arith)
          c.word.ensures);
      room = (let r = inv.room in let more = c.push.ensures.capacity in omega arith);
    }
