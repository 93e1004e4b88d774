-- The texts that commands read.
use Rattle.std.specs.Prelude.{ℕ, ◌≤◌, List, length}
use Rattle.room_script.specs.Lines.{lines_of}
use Rattle.room_script.specs.Breaks.{BreaksAt}

-- the most bytes of a text
abbrev pub most_text : ℕ
most_text = 1048576

-- a line of the text, which is not too long, is the first that breaks these rules
pub record IsBroken (Keeps : List (List ℕ) → Type 0) (text : List ℕ) (line : ℕ) : Type 0 where
  pub few : length text ≤ most_text
  pub breaks : BreaksAt Keeps (lines_of text) line
