-- Runs: acts one after another, from the start.
use Rattle.std.specs.Prelude.{◌≡◌, ℕ, List, [], ◌∷◌, replicate, Result, Ok, Err}
use Rattle.room_core.specs.declared.acts.Act.{Act}
use Rattle.room_core.specs.declared.acts.Refused.{Refused}
use Rattle.room_core.specs.declared.items.Event.{Event}
use Rattle.room_core.specs.declared.phases.Phase.TheVariants.{Out}
use Rattle.room_core.specs.Machine.{State, Row, row_of, after}

-- an act that was accepted, and its event
pub record Moment : Type 0 where
  pub caller : ℕ
  pub act : Act
  pub event : Event

-- a state and how it came about, the latest moment first
pub record World : Type 0 where
  pub state : State
  pub history : List Moment

-- the world after an act of c that has this row, or is refused
abbrev pub carried : World → ℕ → Act → Result Row Refused → World
carried w c act (Err why) = w
carried w c act (Ok row) = record {
  state = after w.state c act row;
  history = record { caller = c; act = act; event = row.1 } ∷ w.history;
}

-- an act that is refused changes nothing
abbrev pub happens : World → ℕ × Act → World
happens w a = carried w a.0 a.1 (row_of w.state a.0 a.1)

-- so many rooms and callers, with all words 0, all callers out, and no past
abbrev pub start : ℕ → ℕ → World
start rooms callers =
    record {
      state = record {
        words = record {
          active = 0;
          wait = replicate rooms 0;
          grant = replicate rooms 0;
          done = replicate rooms 0;
        };
        phases = replicate callers Out;
        draws = replicate callers 0;
      };
      history = [];
    }

-- a whole schedule
abbrev pub run : List (ℕ × Act) → World → World
run [] w = w
run (a ∷ acts) w = run acts (happens w a)

-- some list of acts leads to the state, and to how it came about
abbrev pub Reached : ℕ → ℕ → World → Type 0
Reached rooms callers w = (acts : List (ℕ × Act)) × (run acts (start rooms callers) ≡ w)
