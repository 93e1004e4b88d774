-- The lines of a script and the entries of their calls.
use Rattle.std.specs.Prelude.{ℕ, List}
use Rattle.std.specs.List.{sum_by}
use Rattle.bay_core.specs.declared.calls.Op.{Op}
use Rattle.bay_core.specs.declared.calls.Op.TheVariants as ops
use Rattle.bay_core.specs.declared.calls.Reply.{Reply}
use Rattle.bay_core.specs.declared.calls.Reply.TheVariants.{Item}
use Rattle.bay_core.specs.declared.calls.Entry.{Entry}
use Rattle.room_script.specs.declared.trials.Line.{Line}
use Rattle.room_script.specs.declared.trials.Line.TheVariants.{Push, Pop, Enq, Deq, Peek, Sizes}
use Rattle.bay_store.specs.Sharing.{share_with}

-- the operation that a line asks for, and its item, which is 0 where it puts none
abbrev pub asked : Line → Op × ℕ
asked (Push item) = (ops.Push, item)
asked Pop = (ops.Pop, 0)
asked (Enq item) = (ops.Enq, item)
asked Deq = (ops.Deq, 0)
asked Peek = (ops.Peek, 0)
asked Sizes = (ops.Sizes, 0)

-- those of an entry
abbrev pub called : Entry → Op × ℕ
called e = (e.op, e.arg)

-- how many items a call of this operation with this reply took: a peek took none
abbrev pub taken_of : Op → Reply → ℕ
taken_of op (Item item) = share_with op
taken_of op _ = 0

-- how many the calls of these entries took
abbrev pub items_taken : List Entry → ℕ
items_taken es = sum_by (λ e. taken_of e.op e.reply) es
