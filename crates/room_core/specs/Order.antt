-- A run in its order: its moments, its trace, and places in them.
use Rattle.std.specs.Prelude.{◌≡◌, ℕ, ◌≤◌, Bool, true, List, ◌∷◌, ◌++◌, reverse, flat_map, count_by, option_to_list}
use Rattle.room_core.specs.declared.acts.Act.{Act}
use Rattle.room_core.specs.declared.items.Item.{Item}
use Rattle.room_core.specs.declared.items.Opening.{Opening}
use Rattle.room_core.specs.Runs.{Moment, run, start}
use Rattle.room_core.specs.Openings.{opened}

-- the moments of the acts that are accepted
abbrev pub moments : ℕ → ℕ → List (ℕ × Act) → List Moment
moments rooms callers acts = reverse (run acts (start rooms callers)).history

-- so it is in every run of 1 to 7 rooms
abbrev pub InEveryRun : (ℕ → List Moment → Type 0) → Type 0
InEveryRun P =
    (rooms callers : ℕ) (acts : List (ℕ × Act)) → rooms ≤ 7 → P rooms (moments rooms callers acts)

-- what the trace gains at a moment
abbrev pub gains : Moment → List Item
gains m = option_to_list m.event.one ++ option_to_list m.event.two

-- the trace of a run: the items of its events
abbrev pub trace_of : List Moment → List Item
trace_of moments = flat_map gains moments

-- the openings of a run
abbrev pub openings_of : List Moment → List Opening
openings_of moments = opened (trace_of moments)

-- the last moment that passes a test, and the moments before it
pub record LastOf (test : Moment → Bool) (moments : List Moment) : Type 0 where
  pub before : List Moment
  pub moment : Moment
  pub after : List Moment
  pub stands : moments ≡ before ++ moment ∷ after
  pub passes : test moment ≡ true
  pub is_last : count_by test after ≡ 0

-- the moment at which the trace gains an item, and what comes before it
pub record Gain (moments : List Moment) (item : Item) : Type 0 where
  pub before : List Moment
  pub moment : Moment
  pub after : List Moment
  pub one : List Item
  pub two : List Item
  pub stands : moments ≡ before ++ moment ∷ after
  pub gained : gains moment ≡ one ++ item ∷ two

-- the trace up to the item
abbrev pub past : {moments : List Moment} {item : Item} → Gain moments item → List Item
past g = trace_of g.before ++ g.one
