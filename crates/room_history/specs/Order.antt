-- Where a list of entries first leaves its order.
use Rattle.std.specs.Prelude.{ℕ, ◌-◌, ◌<◌, List, length, slice_index_or}
use Rattle.bay_core.specs.declared.calls.Entry.{Entry}
use Rattle.bay_core.specs.Legal.{Before, OrderedBelow}

-- the entries before the one at i are ordered, and that one isn't after the one before it
pub record IsFirstDisorder (es : List Entry) (i : ℕ) : Type 0 where
  pub counted : 0 < i
  pub within : i < length es
  pub ordered : OrderedBelow es i
  pub disorder : (d : Entry) → ¬ Before (slice_index_or es (i - 1) d) (slice_index_or es i d)
