-- The one history of a trial's callers.
use Rattle.std.specs.Prelude.{◌≡◌, List, reverse}
use Rattle.bay_core.specs.declared.calls.Entry.{Entry}
use Rattle.bay_core.specs.Noted.{entries}
use Rattle.room_script.specs.Trials.{Outline}
use Rattle.room_trial.specs.Histories.{IsPlayed}
use Rattle.room_trial.specs.declared.crews.Played.{Played}

-- the entries are the history of callers that played the trial
pub record IsHistoryOf (o : Outline) (es : List Entry) : Type 0 where
  pub played : Played
  pub plays : IsPlayed o played
  pub history : es ≡ reverse (entries plays.bay.history)
