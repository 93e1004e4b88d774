-- Who is inside a room, told from a trace.
use Rattle.std.specs.Prelude.{◌≡◌, ℕ, ◌==◌, Bool, false, List, Some, None, filter}
use Rattle.std.specs.List.{last_or}
use Rattle.room_core.specs.declared.items.Item.{Item}
use Rattle.room_core.specs.declared.items.Item.TheVariants.{Entered, Left}

-- an Entered or a Left of the caller
abbrev pub is_move_of : ℕ → Item → Bool
is_move_of c (Entered caller room) = caller == c
is_move_of c (Left caller) = caller == c
is_move_of c _ = false

-- the caller's last Entered or Left in the trace is its Entered of this room
abbrev pub Occupies : List Item → ℕ → ℕ → Type 0
Occupies trace c room = last_or None (filter (is_move_of c) trace) ≡ Some (Entered c room)
