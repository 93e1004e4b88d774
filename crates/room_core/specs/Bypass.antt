-- How many openings a ticket may wait.
use Rattle.std.specs.Prelude.{◌≡◌, ℕ, ◌+◌, ◌-◌, ◌≤◌, ◌==◌, ◌&&◌, ◌||◌, nat_lt, Bool, true, false, List, ◌∷◌, ◌++◌, count_by, Contains}
use Rattle.room_core.specs.declared.acts.Act.TheVariants.{Draw}
use Rattle.room_core.specs.declared.words.Touch.{Touch}
use Rattle.room_core.specs.declared.words.Touch.TheVariants.{Load}
use Rattle.room_core.specs.declared.words.Word.TheVariants.{Active}
use Rattle.room_core.specs.declared.items.Opening.{Opening}
use Rattle.room_core.specs.Active.{turn_of}
use Rattle.room_core.specs.Runs.{Moment}
use Rattle.room_core.specs.Openings.{Admits}
use Rattle.room_core.specs.Order.{openings_of}
use Rattle.room_core.specs.Admission.{is_draw, drawn}

-- a load of the active word
abbrev pub loads_active : Touch → Bool
loads_active (Load Active word) = true
loads_active _ = false

-- the caller draws, or loads the active word
abbrev pub is_look_of : ℕ → Moment → Bool
is_look_of c m = m.caller == c && (is_draw m.act || loads_active m.event.touch)

-- a caller draws a ticket of a room, and later loads the active word for the first time since
pub record FirstLook (moments : List Moment) (room ticket turn : ℕ) : Type 0 where
  pub before : List Moment
  pub draw : Moment
  pub between : List Moment
  pub look : Moment
  pub after : List Moment
  pub word : ℕ
  pub stands : moments ≡ before ++ draw ∷ between ++ look ∷ after
  pub draws : draw.act ≡ Draw room
  pub number : ticket ≡ drawn room before + 1
  pub same : look.caller ≡ draw.caller
  pub loads : look.event.touch ≡ Load Active word
  pub turn_is : turn ≡ turn_of word
  pub first : count_by (is_look_of draw.caller) between ≡ 0

-- the opening comes in a turn strictly between the two
abbrev pub is_between : ℕ → ℕ → Opening → Bool
is_between first last o = nat_lt first o.turn && nat_lt o.turn last

-- how long a ticket waits, in openings
pub record IsPrompt (rooms : ℕ) (moments : List Moment) : Type 0 where
  -- the opening that lets the ticket in comes at the turn first seen, or at most as many turns later
  -- as there are rooms
  pub each : (room ticket first : ℕ) (o : Opening) → FirstLook moments room ticket first
      → Contains (openings_of moments) o → Admits o room ticket
      → (first ≤ o.turn) × (o.turn ≤ first + rooms)
  -- so there is less than one opening a room in between
  pub between : (room ticket first : ℕ) (o : Opening) → FirstLook moments room ticket first
      → Contains (openings_of moments) o → Admits o room ticket
      → count_by (is_between first o.turn) (openings_of moments) ≤ rooms - 1
