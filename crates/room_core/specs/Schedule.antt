-- Which of the acts of a schedule the core accepts.
use Rattle.std.specs.Prelude.{◌≡◌, ℕ, ◌+◌, ◌<◌, List, length, take, slice_index_or}
use Rattle.room_core.specs.declared.acts.Act.{Act}
use Rattle.room_core.specs.declared.acts.Act.TheVariants.{Draw}
use Rattle.room_core.specs.declared.acts.Refused.{Refused}
use Rattle.room_core.specs.Runs.{run, start}
use Rattle.room_core.specs.Refusals.{Refuses}

-- the core refuses act number i, counted from 0, after the acts before it
abbrev pub RefusesAct : ℕ → ℕ → List (ℕ × Act) → ℕ → Refused → Type 0
RefusesAct rooms callers acts i why =
    let act = slice_index_or acts i (0, Draw 0) in
    Refuses (run (take i acts) (start rooms callers)).state act.0 act.1 why

-- it accepts each of the first n acts where it comes
abbrev pub AcceptsFirst : ℕ → ℕ → List (ℕ × Act) → ℕ → Type 0
AcceptsFirst rooms callers acts n =
    (i : ℕ) (why : Refused) → i < n → RefusesAct rooms callers acts i why → ⊥

-- act number `at`, counted from 1, is the first that it refuses
pub record FirstRefused (rooms callers : ℕ) (acts : List (ℕ × Act)) (at : ℕ) (why : Refused)
    : Type 0 where
  pub index : ℕ
  pub number : at ≡ index + 1
  pub there : index < length acts
  pub refused : RefusesAct rooms callers acts index why
  pub accepted : AcceptsFirst rooms callers acts index
