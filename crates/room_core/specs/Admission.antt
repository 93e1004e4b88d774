-- Tickets, and the openings that let them in.
use Rattle.std.specs.Prelude.{◌≡◌, ℕ, ◌+◌, ◌<◌, ◌==◌, ◌&&◌, Bool, true, false, List, ◌∷◌, ◌++◌, Some, None, count_by, slice_get, Contains}
use Rattle.std.specs.List.{last_or}
use Rattle.room_core.specs.declared.acts.Act.{Act}
use Rattle.room_core.specs.declared.acts.Act.TheVariants.{Draw}
use Rattle.room_core.specs.declared.words.Touch.{Touch}
use Rattle.room_core.specs.declared.words.Touch.TheVariants.{Load}
use Rattle.room_core.specs.declared.words.Word.TheVariants.{Wait}
use Rattle.room_core.specs.declared.items.Item.TheVariants.{Opened, Entered}
use Rattle.room_core.specs.declared.items.Opening.{Opening}
use Rattle.room_core.specs.Runs.{Moment}
use Rattle.room_core.specs.Openings.{opened, granted, Admits}
use Rattle.room_core.specs.Order.{openings_of, LastOf, Gain, past}

-- a draw, of any room
abbrev pub is_draw : Act → Bool
is_draw (Draw room) = true
is_draw _ = false

-- a draw of this room
abbrev pub is_draw_of : ℕ → Act → Bool
is_draw_of room (Draw r) = r == room
is_draw_of room _ = false

-- a load of this room's wait
abbrev pub loads_wait : ℕ → Touch → Bool
loads_wait room (Load (Wait r) value) = r == room
loads_wait room _ = false

-- how many tickets of the room were drawn
abbrev pub drawn : ℕ → List Moment → ℕ
drawn room moments = count_by (λ m. is_draw_of room m.act) moments

-- the caller's last draw gave it this ticket of the room: the number of draws up to and with it
pub record Holds (moments : List Moment) (c room ticket : ℕ) : Type 0 where
  pub draw : LastOf (λ m. m.caller == c && is_draw m.act) moments
  pub of_room : draw.moment.act ≡ Draw room
  pub number : ticket ≡ drawn room draw.before + 1

-- when the caller last loaded the wait of the room, this many tickets were drawn
pub record Counted (moments : List Moment) (c room count : ℕ) : Type 0 where
  pub load : LastOf (λ m. m.caller == c && loads_wait room m.event.touch) moments
  pub number : count ≡ drawn room load.before

-- of the openings up to now the last one lets the ticket in, and of all openings no other does
pub record LetIn (up_to_now all : List Opening) (room ticket : ℕ) : Type 0 where
  pub opening : Opening
  pub is_last : last_or None up_to_now ≡ Some opening
  pub admits : Admits opening room ticket
  pub only : (o : Opening) → Contains all o → Admits o room ticket → o ≡ opening

-- how the openings of a run let its tickets in
pub record IsAdmission (moments : List Moment) : Type 0 where
  -- the turns of the openings are 1, 2, 3 and so on
  pub turns : (i : ℕ) (o : Opening) → slice_get (openings_of moments) i ≡ Some o → o.turn ≡ i + 1
  -- each opening goes on where the one before of its room ended, and lets somebody in
  pub goes_on : (before after : List Opening) (o : Opening)
      → openings_of moments ≡ before ++ o ∷ after → (o.from ≡ granted before o.room) × (o.from < o.to)
  -- it lets in the tickets that were drawn before the opener counted them
  pub counted : (turn room from to : ℕ) (g : Gain moments (Opened turn room from to))
      → Counted g.before g.moment.caller room to
  -- who enters holds a ticket, and the last opening, and no other, lets it in
  pub entered : (c room : ℕ) (g : Gain moments (Entered c room))
      → (g.moment.caller ≡ c) × (ticket : ℕ) × Holds g.before c room ticket
      × LetIn (opened (past g)) (openings_of moments) room ticket
