-- The openings of a trace, and whom they let in.
use Rattle.std.specs.Prelude.{◌≡◌, ℕ, ◌<◌, ◌≤◌, ◌==◌, List, Option, Some, None, filter, filter_map}
use Rattle.std.specs.List.{last_or}
use Rattle.std.specs.Option.{option_map_or}
use Rattle.room_core.specs.declared.items.Item.{Item}
use Rattle.room_core.specs.declared.items.Item.TheVariants.{Opened, Entered, Left, ExitBegun, ExitEnded}
use Rattle.room_core.specs.declared.items.Opening.{Opening}

-- the opening that an item is, if it is one
abbrev pub opening_of : Item → Option Opening
opening_of (Opened turn room from to) =
    Some (record { turn = turn; room = room; from = from; to = to })
opening_of (Entered caller room) = None
opening_of (Left caller) = None
opening_of (ExitBegun room) = None
opening_of (ExitEnded room) = None

-- the openings of a trace, in their order
abbrev pub opened : List Item → List Opening
opened trace = filter_map opening_of trace

-- the last opening of a trace, if there is one
abbrev pub last_opened : List Item → Option Opening
last_opened trace = last_or None (opened trace)

-- the last ticket of the room that these openings let in, or 0
abbrev pub granted : List Opening → ℕ → ℕ
granted openings room =
    option_map_or (λ o. o.to) (last_or None (filter (λ o. o.room == room) openings)) 0

-- the opening is of the room, and lets the ticket in
pub record Admits (o : Opening) (room ticket : ℕ) : Type 0 where
  pub of_room : o.room ≡ room
  pub above : o.from < ticket
  pub up_to : ticket ≤ o.to
