-- The calls by which items go into a pool and come out of it.
use Rattle.bay_core.specs.declared.calls.Op.{Op}
use Rattle.bay_core.specs.declared.calls.Op.TheVariants.{Push, Pop, Enq, Deq}
use Rattle.work_pool.specs.declared.pools.Way.{Way}
use Rattle.work_pool.specs.declared.pools.Way.TheVariants.{Stack, Queue}

-- the operation that puts an item in
abbrev pub puts : Way → Op
puts Stack = Push
puts Queue = Enq

-- the operation that takes one out
abbrev pub takes : Way → Op
takes Stack = Pop
takes Queue = Deq
