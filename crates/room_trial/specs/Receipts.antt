-- The receipts in the answers of a bay.
use Rattle.std.specs.Prelude.{Some, None}
use Rattle.std.specs.declared.option.Option.{Option}
use Rattle.bay_store.specs.declared.receipts.Receipt.{Receipt}
use Rattle.bay_store.specs.declared.receipts.Pushed.{Pushed}
use Rattle.bay_store.specs.declared.receipts.Pushed.TheVariants as pushed
use Rattle.bay_store.specs.declared.receipts.Popped.{Popped}
use Rattle.bay_store.specs.declared.receipts.Popped.TheVariants as popped
use Rattle.bay_store.specs.declared.receipts.Peeked.{Peeked}
use Rattle.bay_store.specs.declared.receipts.Peeked.TheVariants as peeked
use Rattle.bay_store.specs.declared.receipts.Counted.{Counted}
use Rattle.bay_store.specs.declared.receipts.Counted.TheVariants as counted

-- of a push or an enqueue
abbrev pub put_receipt : Pushed → Option Receipt
put_receipt (pushed.Stored r) = Some r
put_receipt (pushed.Full r) = Some r
put_receipt pushed.Spent = None

-- of a pop or a dequeue
abbrev pub take_receipt : Popped → Option Receipt
take_receipt (popped.Item item r) = Some r
take_receipt (popped.Empty r) = Some r
take_receipt popped.Spent = None

-- of a peek
abbrev pub peek_receipt : Peeked → Option Receipt
peek_receipt (peeked.Item item r) = Some r
peek_receipt (peeked.Empty r) = Some r
peek_receipt peeked.Spent = None

-- of a look at both lengths
abbrev pub sizes_receipt : Counted → Option Receipt
sizes_receipt (counted.Sizes stack queue r) = Some r
sizes_receipt counted.Spent = None
