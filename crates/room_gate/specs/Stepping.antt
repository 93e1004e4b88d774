-- What a step on a user word asks of a token, and what it tells.
use Rattle.std.specs.Prelude.{◌≡◌, ℕ, ◌+◌, ◌^◌, ◌<◌, false, Option, None, slice_index, slice_set}
use Rattle.room_core.specs.declared.phases.Phase.TheVariants.{Inside, Exiting}
use Rattle.room_rule.specs.Use.{Own, own, Meaning, user_place}
use Rattle.room_rule.specs.Steps.{CanStep, CanExit, CanTouch, StepMade, ExitMade, TouchMade}
use Rattle.room_rule.specs.View.{used, keyed}
use Rattle.room_rule.specs.Told.{Seated, held_in, Carries, IsNoEvent}
use Rattle.room_gate.specs.Shows.{Site, Caller, Insider, KeyHolder}

-- any number fits
abbrev pub any : ℕ → Type 0
any n = Unit {0}

-- a number fits where adding this to it does not wrap
abbrev pub fits_with : ℕ → ℕ → Type 0
fits_with by n = n + by < 2 ^ 64

-- what an insider has for the use
abbrev pub own_of : {S V : Type 0} → Insider S V → Own S V
own_of i = own i.caller.user i.held

module _ {X S V : Type 0} (M : Meaning X S V) (x : X) where
  -- an insider may step the word, from n to `change n`
  abbrev pub MayStep : Insider S V → ℕ → (ℕ → ℕ) → (ℕ → Type 0)
      → (Own S V → ℕ → ℕ → Own S V → Type 0) → Type 0
  MayStep i word change fits then =
      CanStep M x i.caller.who i.caller.user word change i.opening.room i.opening.turn i.held fits
      then

  -- so may the key's holder
  abbrev pub MayExit : KeyHolder V → ℕ → (ℕ → ℕ) → (Own S V → ℕ → ℕ → Own S V → Type 0) → Type 0
  MayExit k word change then =
      CanExit M x k.caller.who k.caller.user word change k.opening.room k.opening.turn k.words then

  -- and so may a caller outside all rooms
  abbrev pub MayTouch : Caller V → ℕ → (ℕ → ℕ) → (ℕ → Type 0)
      → (Own S V → ℕ → ℕ → Own S V → Type 0) → Type 0
  MayTouch c word change fits then = CanTouch M x c.who c.user word change fits then

  -- The insider's step from `old` to `value` was one that the use allows, after which it has `after`:
  -- there was a lawful content in which it stood as it shows, with `old` in the word.
  abbrev pub HasStepped : Insider S V → ℕ → ℕ → ℕ → Insider S V → Type 0
  HasStepped i word old value after =
      StepMade M x i.caller.who word i.opening.room i.opening.turn (own_of i) old value (own_of after)

  -- so was the step of the key's holder
  abbrev pub HasExited : KeyHolder V → ℕ → ℕ → ℕ → KeyHolder V → Type 0
  HasExited k word old value after =
      ExitMade M x k.caller.who word k.opening.room k.opening.turn k.words (own k.caller.user None)
      old value (own after.caller.user None)

  -- and so was that of a caller outside all rooms
  abbrev pub HasTouched : Caller V → ℕ → ℕ → ℕ → Caller V → Type 0
  HasTouched c word old value after =
      TouchMade M x c.who word (own c.user None) old value (own after.user None)

-- the rooms allow the step to the seat, and it tells this
abbrev pub Permits : {X S V : Type 0} → Meaning X S V → ℕ → Site X → Seated S V → ℕ → (ℕ → ℕ)
    → (ℕ → Seated S V → Type 0) → Type 0
Permits M m rooms me word change then = (slots id : ℕ) → IsNoEvent M m
    (record { usage = rooms.usage; callers = rooms.callers }) slots id me (user_place m word)
    change then

-- what a seat has for the use
abbrev pub own_at : {S V : Type 0} → Seated S V → Own S V
own_at me = own me.0.user (held_in me.1)

-- What a step on a user word tells of the seat before, the number found (at a store, the number
-- stored), and the seat after; `then` is what its outcome means.
module _ {X S V : Type 0} (M : Meaning X S V) (x : X) (word : ℕ)
    (then : Own S V → ℕ → ℕ → Own S V → Type 0) where
  -- a step of the insider, key's holder or caller outside at the seat was allowed
  abbrev pub InsideAt : Seated S V → ℕ → ℕ → Seated S V → Type 0
  InsideAt me old value me' = (room ticket turn to : ℕ) (first : Option ℕ)
      → me.0.phase ≡ Inside room ticket first turn to
      → StepMade M x me.0.who word room turn (own_at me) old value (own_at me')

  abbrev pub ExitAt : Seated S V → ℕ → ℕ → Seated S V → Type 0
  ExitAt me old value me' = (room turn : ℕ)
      → me.0.phase ≡ Exiting room turn
      → ExitMade M x me.0.who word room turn me.0.kept (own me.0.user None) old value
      (own me'.0.user None)

  abbrev pub TouchAt : Seated S V → ℕ → ℕ → Seated S V → Type 0
  TouchAt me old value me' =
      TouchMade M x me.0.who word (own me.0.user None) old value (own me'.0.user None)

  -- an insider's step that finds n and leaves `change n`
  abbrev pub stepped_to : (ℕ → ℕ) → Seated S V → ℕ → Seated S V → Type 0
  stepped_to change me n me' =
      (me'.0 ≡ used me.0 me'.0.user) × Carries (M.keeps me'.0.user) me'.1
      × then (own_at me) n (change n) (own_at me')
      × InsideAt me n (change n) me'

  -- an insider's store
  abbrev pub stored : Seated S V → ℕ → Seated S V → Type 0
  stored me value me' =
      (me'.0 ≡ used me.0 me'.0.user) × Carries (M.keeps me'.0.user) me'.1
      × ((old : ℕ) × then (own_at me) old value (own_at me') × InsideAt me old value me')

  -- a touch that finds n and leaves `change n`
  abbrev pub touched_to : (ℕ → ℕ) → Seated S V → ℕ → Seated S V → Type 0
  touched_to change me n me' = (me' ≡ (used me.0 me'.0.user, me.1))
      × then (own me.0.user None) n (change n) (own me'.0.user None)
      × TouchAt me n (change n) me'

  -- a load by the key's holder, which knows what it finds
  abbrev pub key_loaded : Seated S V → ℕ → Seated S V → Type 0
  key_loaded me n me' = (me' ≡ (keyed me.0 me'.0.user me.0.kept, me.1))
      × (M.is_touch x word ≡ false → n ≡ slice_index me.0.kept word)
      × then (own me.0.user None) n n (own me'.0.user None)
      × ExitAt me n n me'

  -- a store by the key's holder
  abbrev pub key_stored : Seated S V → ℕ → Seated S V → Type 0
  key_stored me value me' =
      (me' ≡ (keyed me.0 me'.0.user (slice_set me.0.kept word value), me.1))
      × ((old : ℕ) × (M.is_touch x word ≡ false → old ≡ slice_index me.0.kept word)
      × then (own me.0.user None) old value (own me'.0.user None)
      × ExitAt me old value me')
