use Rattle.std.proofs.Common.{◌∙◌, refl}
use Rattle.room_trial.proofs.Answering.{one_more, spent}
use Rattle.room_trial.proofs.callers.answered.Goals as goal

pub returns-in-None : goal.returns-in-None
returns-in-None g c =
    let so_far = c.loop-i.invariant.so_far in
    let out = rw c.in-None.is at c.call_line-after.ensures.gives in
    spent c.args.bay.now.usage c.args.lines.now c.loop-i.i c.args.pass c.loop-i.pass c.call_line-after.result.0 c.loop-i.entries.items _ so_far out

pub loop-i-preserved : goal.loop-i-preserved
loop-i-preserved g c =
    let so_far = c.loop-i.invariant.so_far in let called = c.call_line-after.ensures in
    let calls = rw c.in-Some.is at called.gives in
    let more = one_more c.args.bay.now.usage c.args.lines.now c.loop-i.i c.args.pass c.loop-i.pass
    c.call_line-after.result.0 c.loop-i.entries.items _ c.in-Some.receipt so_far _ c.loop-i-test.true refl calls in
    record {
      so_far = rw c.push_reserved.ensures.items more;
      own = called.same_bay ∙ c.loop-i.invariant.own;
      share = called.share;
    }
