-- What `trial` prints for a text.
use Rattle.std.specs.Prelude.{ℕ, ◌≤◌, List, length}
use Rattle.room_script.specs.Lines.{lines_of}
use Rattle.room_script.specs.Trials.{Outline, SpellsTrial}
use Rattle.room_trial.specs.Texts.{IsTrialText}
use Rattle.rooms_program.specs.Texts.{most_text}

-- the text is a trial, and the output prints a history of it
pub record IsTried (text output : List ℕ) : Type 0 where
  pub few : length text ≤ most_text
  pub outline : Outline
  pub spells : SpellsTrial (lines_of text) outline
  pub printed : IsTrialText outline output
