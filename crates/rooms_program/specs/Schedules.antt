-- What `schedule` prints for a text, and what it refuses.
use Rattle.std.specs.Prelude.{◌≡◌, ℕ, ◌≤◌, List, length}
use Rattle.room_core.specs.declared.acts.Refused.{Refused}
use Rattle.room_core.specs.Runs.{run, start}
use Rattle.room_core.specs.Order.{moments, trace_of}
use Rattle.room_core.specs.Schedule.{AcceptsFirst, FirstRefused}
use Rattle.room_script.specs.Lines.{lines_of}
use Rattle.room_script.specs.Schedules.{Plan, Spells}
use Rattle.room_script.specs.Prints.{run_lines, text_of}
use Rattle.rooms_program.specs.Texts.{most_text}

-- what is printed of the run of a plan: its trace, the active word and each caller's phase
abbrev pub printed_run : Plan → List ℕ
printed_run p =
    text_of (run_lines (run p.acts (start p.rooms p.callers)).state (trace_of (moments p.rooms p.callers p.acts)))

-- the text is a schedule of which the core accepts each act
pub record IsRunnable (text : List ℕ) : Type 0 where
  pub few : length text ≤ most_text
  pub plan : Plan
  pub spells : Spells (lines_of text) plan
  pub accepted : AcceptsFirst plan.rooms plan.callers plan.acts (length plan.acts)

-- the text is such a schedule, and the output is its run in print
pub record IsScheduled (text output : List ℕ) : Type 0 where
  pub runnable : IsRunnable text
  pub printed : output ≡ printed_run runnable.plan

-- the text is a schedule, and an act of it is the first that the core refuses
pub record IsStopped (text : List ℕ) (at : ℕ) (why : Refused) : Type 0 where
  pub few : length text ≤ most_text
  pub plan : Plan
  pub spells : Spells (lines_of text) plan
  pub first : FirstRefused plan.rooms plan.callers plan.acts at why
