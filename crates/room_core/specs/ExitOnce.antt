-- The exit code of a room runs once for each of its openings, after the last departure.
use Rattle.std.specs.Prelude.{◌≡◌, ℕ, ◌+◌, ◌≤◌, ◌⊎◌, Bool, true, false, List, [], ◌∷◌, ◌++◌, count_by, Contains}
use Rattle.room_core.specs.declared.items.Item.{Item}
use Rattle.room_core.specs.declared.items.Item.TheVariants.{Opened, Left, ExitBegun, ExitEnded}
use Rattle.room_core.specs.declared.items.Opening.{Opening}
use Rattle.room_core.specs.Openings.{opened}

-- somebody leaves
abbrev pub is_departure : Item → Bool
is_departure (Left caller) = true
is_departure _ = false

-- exit code begins
abbrev pub is_begin : Item → Bool
is_begin (ExitBegun room) = true
is_begin _ = false

-- exit code ends
abbrev pub is_end : Item → Bool
is_end (ExitEnded room) = true
is_end _ = false

-- the item of an opening
abbrev pub item_of : Opening → Item
item_of o = Opened o.turn o.room o.from o.to

-- how many callers left
abbrev pub departures : List Item → ℕ
departures items = count_by is_departure items

-- nothing follows, or the next item is an opening
abbrev pub EndsHere : List Item → Type 0
EndsHere [] = Unit {0}
EndsHere (Opened turn room from to ∷ rest) = Unit {0}
EndsHere _ = ⊥

-- the items that follow an opening, up to the next one or to the end of the trace
pub record Follow (trace : List Item) (o : Opening) (items rest : List Item) : Type 0 where
  pub past : List Item
  pub stands : trace ≡ past ++ item_of o ∷ items ++ rest
  pub one : opened items ≡ []
  pub whole : EndsHere rest

-- the last item is the departure that makes up the opening's last ticket
abbrev pub EndsInLastLeft : Opening → List Item → Type 0
EndsInLastLeft o items =
    (before : List Item) × (c : ℕ) × (items ≡ before ++ Left c ∷ [])
    × (o.from + departures items ≡ o.to)

-- the exit code of one opening, told from the items that follow it
pub record RunsOnce (o : Opening) (items rest : List Item) : Type 0 where
  pub begins_once : count_by is_begin items ≤ 1
  pub ends_once : count_by is_end items ≤ 1
  -- it begins directly after the last departure
  pub begun : (before after : List Item) (q : ℕ) → items ≡ before ++ ExitBegun q ∷ after
      → (q ≡ o.room) × EndsInLastLeft o before
  -- and directly after the last departure it begins
  pub last : (before after : List Item) (c : ℕ) → items ≡ before ++ Left c ∷ after
      → o.from + departures before + 1 ≡ o.to
      → (later : List Item) × (after ≡ ExitBegun o.room ∷ later)
  -- it ends after it began
  pub ended : (before after : List Item) (q : ℕ) → items ≡ before ++ ExitEnded q ∷ after
      → (q ≡ o.room) × Contains before (ExitBegun o.room)
  -- before the next opening it began and ended
  pub before_next : (rest ≡ [])
      ⊎ (Contains items (ExitBegun o.room) × Contains items (ExitEnded o.room))

-- so it is for each opening of the trace
pub record IsOncePerOpening (trace : List Item) : Type 0 where
  pub each : (o : Opening) (items rest : List Item) → Follow trace o items rest
      → RunsOnce o items rest
