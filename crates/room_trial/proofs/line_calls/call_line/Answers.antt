use Rattle.room_trial.proofs.Receipts.{put_gives, take_gives, peek_gives, sizes_give}
use Rattle.room_trial.proofs.line_calls.call_line.Goals as goal

pub returns-in-Pop-clause-gives : goal.returns-in-Pop-clause-gives
returns-in-Pop-clause-gives g c =
    rw (c.in-Pop.is, c.taken.ensures) (take_gives _ _ _ _ _ c.pop-pass.ensures.gives)

pub returns-in-Enq-clause-gives : goal.returns-in-Enq-clause-gives
returns-in-Enq-clause-gives g c =
    rw (c.in-Enq.is, c.stored-in-Enq.ensures) (put_gives _ _ _ _ _ _ c.enqueue-pass.ensures.gives)

pub returns-in-Deq-clause-gives : goal.returns-in-Deq-clause-gives
returns-in-Deq-clause-gives g c =
    rw (c.in-Deq.is, c.taken-in-Deq.ensures) (take_gives _ _ _ _ _ c.dequeue-pass.ensures.gives)

pub returns-in-Push-clause-gives : goal.returns-in-Push-clause-gives
returns-in-Push-clause-gives g c =
    rw (c.in-Push.is, c.stored.ensures) (put_gives _ _ _ _ _ _ c.push-pass.ensures.gives)

pub returns-in-Peek-clause-gives : goal.returns-in-Peek-clause-gives
returns-in-Peek-clause-gives g c =
    rw (c.in-Peek.is, c.seen.ensures) (peek_gives _ _ _ _ c.peek-pass.ensures.gives)

pub returns-in-Sizes-clause-gives : goal.returns-in-Sizes-clause-gives
returns-in-Sizes-clause-gives g c =
    rw (c.in-Sizes.is, c.told.ensures) (sizes_give _ _ _ _ c.sizes-pass.ensures.gives)
