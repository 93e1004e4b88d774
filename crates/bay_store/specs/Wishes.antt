-- What a caller asks for.
use Rattle.std.specs.Prelude.{ℕ, List, [], length}
use Rattle.bay_core.specs.declared.calls.Op.{Op}
use Rattle.bay_core.specs.declared.calls.Op.TheVariants.{Push, Pop, Enq, Deq, Peek, Sizes}
use Rattle.bay_store.specs.declared.wishes.Wish.{Wish}
use Rattle.bay_store.specs.declared.wishes.Wish.TheVariants.{One, Several}

-- it was asked for by `ask`
abbrev pub IsOne : Wish → Type 0
IsOne (One op item) = Unit {0}
IsOne (Several items) = ⊥

-- it was asked for by `ask_some`
abbrev pub IsSeveral : Wish → Type 0
IsSeveral (One op item) = ⊥
IsSeveral (Several items) = Unit {0}

-- the operation that is asked for
abbrev pub op_of : Wish → Op
op_of (One op item) = op
op_of (Several items) = Push

-- the item of one operation
abbrev pub item_of : Wish → ℕ
item_of (One op item) = item
item_of (Several items) = 0

-- the items of a handful
abbrev pub items_of : Wish → List ℕ
items_of (One op item) = []
items_of (Several items) = items

-- a share is added for each item that is to be put in
abbrev pub shares_of : Wish → ℕ
shares_of (One Push item) = 1
shares_of (One Pop item) = 0
shares_of (One Enq item) = 1
shares_of (One Deq item) = 0
shares_of (One Peek item) = 0
shares_of (One Sizes item) = 0
shares_of (Several items) = length items
