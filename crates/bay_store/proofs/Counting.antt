-- How many overflows of an operation are of pushes, and of enqueues.
use Rattle.std.proofs.Common.{◌≡◌, ℕ, ◌+◌, refl}
use Rattle.bay_core.specs.declared.calls.Op.{Op}
use Rattle.bay_core.specs.declared.calls.Op.TheVariants.{Push, Pop, Enq, Deq, Peek, Sizes}
use Rattle.bay_store.specs.Acting.{spilled_by, overran_by}

-- no overflow adds none
pub spilled_none : (op : Op) → spilled_by op 0 ≡ 0
spilled_none Push = refl
spilled_none Pop = refl
spilled_none Enq = refl
spilled_none Deq = refl
spilled_none Peek = refl
spilled_none Sizes = refl

pub overran_none : (op : Op) → overran_by op 0 ≡ 0
overran_none Push = refl
overran_none Pop = refl
overran_none Enq = refl
overran_none Deq = refl
overran_none Peek = refl
overran_none Sizes = refl

-- one more adds one
pub spilled_more : (op : Op) (n : ℕ) → spilled_by op n + spilled_by op 1 ≡ spilled_by op (n + 1)
spilled_more Push n = refl
spilled_more Pop n = refl
spilled_more Enq n = refl
spilled_more Deq n = refl
spilled_more Peek n = refl
spilled_more Sizes n = refl

pub overran_more : (op : Op) (n : ℕ) → overran_by op n + overran_by op 1 ≡ overran_by op (n + 1)
overran_more Push n = refl
overran_more Pop n = refl
overran_more Enq n = refl
overran_more Deq n = refl
overran_more Peek n = refl
overran_more Sizes n = refl
