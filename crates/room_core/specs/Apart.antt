-- No two rooms are occupied at once, and none while exit code runs.
use Rattle.std.specs.Prelude.{◌≡◌, ℕ, List, [], ◌∷◌, ◌++◌, Some, Contains}
use Rattle.room_core.specs.declared.items.Item.{Item}
use Rattle.room_core.specs.declared.items.Item.TheVariants.{Opened, ExitBegun, ExitEnded}
use Rattle.room_core.specs.declared.items.Opening.{Opening}
use Rattle.room_core.specs.Occupants.{Occupies}
use Rattle.room_core.specs.Openings.{opened, last_opened}

-- the last opening of the trace is of the room
abbrev pub LastIsOf : List Item → ℕ → Type 0
LastIsOf trace room = (o : Opening) × (last_opened trace ≡ Some o) × (o.room ≡ room)

-- all occupants are of one room, and of none while exit code runs
pub record IsApart (trace : List Item) : Type 0 where
  -- after each part of the trace, whoever occupies a room occupies that of the last opening
  pub one_room : (past rest : List Item) (c room : ℕ) → trace ≡ past ++ rest
      → Occupies past c room → LastIsOf past room
  -- from where exit code begins up to the next opening nobody occupies a room
  pub empty : (past since rest : List Item) (q c room : ℕ)
      → trace ≡ past ++ ExitBegun q ∷ since ++ rest → opened since ≡ []
      → Occupies (past ++ ExitBegun q ∷ since) c room → ⊥
  -- no room opens between the begin of exit code and its end
  pub shut : (past since rest : List Item) (q turn room from to : ℕ)
      → trace ≡ past ++ ExitBegun q ∷ since ++ Opened turn room from to ∷ rest
      → (p : ℕ) × Contains since (ExitEnded p)
