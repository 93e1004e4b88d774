-- Which room opens next: the first one round after the room that was left with somebody to let in.
use Rattle.std.specs.Prelude.{◌≡◌, ℕ, ◌+◌, ◌%◌, ◌<◌, ◌≤◌, ◌==◌, ◌⊎◌, List, [], ◌∷◌, ◌++◌, Some, map, filter}
use Rattle.room_core.specs.declared.words.Touch.{Touch}
use Rattle.room_core.specs.declared.words.Touch.TheVariants.{Load, Store}
use Rattle.room_core.specs.declared.words.Word.TheVariants.{Wait, Grant, Active}
use Rattle.room_core.specs.declared.items.Item.TheVariants.{Opened, Entered, ExitEnded}
use Rattle.room_core.specs.Active.{code_of}
use Rattle.room_core.specs.Runs.{Moment}
use Rattle.room_core.specs.Openings.{granted}
use Rattle.room_core.specs.Order.{openings_of}
use Rattle.room_core.specs.Admission.{drawn}

-- the caller's steps at these moments
abbrev pub steps_of : ℕ → List Moment → List Touch
steps_of c moments = map (λ m. m.event.touch) (filter (λ m. m.caller == c) moments)

-- the next step stores an active word with this code, unless the run ends
abbrev pub StoresNext : ℕ → List Touch → Type 0
StoresNext code [] = Unit {0}
StoresNext code (Store Active word ∷ later) = code_of word ≡ code
StoresNext code _ = ⊥

-- How a leaver of room r looks at the rooms from k on, round: at the wait of each, and then at its
-- grant. The run may end at any step.
pub data Scan (rooms r : ℕ) : ℕ → List Touch → Type 0 where
  ends : (k : ℕ) → Scan rooms r k []
  ends_between : (k w : ℕ) → Scan rooms r k (Load (Wait k) w ∷ [])
  -- nobody to let in: on to the next room
  goes_on : (k w g : ℕ) (later : List Touch) → w ≤ g → (k ≡ r → ⊥)
      → Scan rooms r ((k + 1) % rooms) later
      → Scan rooms r k (Load (Wait k) w ∷ Load (Grant k) g ∷ later)
  -- somebody to let in: it passes on to this room
  passes_on : (k w g : ℕ) (later : List Touch) → g < w → StoresNext (k + 1) later
      → Scan rooms r k (Load (Wait k) w ∷ Load (Grant k) g ∷ later)
  -- nobody to let in anywhere: it makes the active word idle
  rests : (k w g : ℕ) (later : List Touch) → w ≤ g → k ≡ r → StoresNext 0 later
      → Scan rooms r k (Load (Wait k) w ∷ Load (Grant k) g ∷ later)

-- what each leaver's scan says, and what it leads to
pub record IsCyclic (rooms : ℕ) (moments : List Moment) : Type 0 where
  -- who ends exit code looks at the rooms after its own, its own last
  pub scans : (before after : List Moment) (m : Moment) (r : ℕ) → moments ≡ before ++ m ∷ after
      → m.event.one ≡ Some (ExitEnded r)
      → Scan rooms r ((r + 1) % rooms) (steps_of m.caller (m ∷ after))
  -- a load of a wait gives the number of draws before it
  pub waits : (before after : List Moment) (m : Moment) (k w : ℕ) → moments ≡ before ++ m ∷ after
      → m.event.touch ≡ Load (Wait k) w → w ≡ drawn k before
  -- a load of a grant gives the last ticket that was let in before it
  pub grants : (before after : List Moment) (m : Moment) (k g : ℕ) → moments ≡ before ++ m ∷ after
      → m.event.touch ≡ Load (Grant k) g → g ≡ granted (openings_of before) k
  -- the next opening after a store of the active word is of the room that it names; after an idle
  -- one it is by a caller that enters with it
  pub follows : (before between after : List Moment) (m o : Moment) (word turn room from to : ℕ)
      → moments ≡ before ++ m ∷ between ++ o ∷ after → m.event.touch ≡ Store Active word
      → openings_of between ≡ [] → o.event.one ≡ Some (Opened turn room from to)
      → (code_of word ≡ room + 1)
      ⊎ ((code_of word ≡ 0) × (o.event.two ≡ Some (Entered o.caller room)))
