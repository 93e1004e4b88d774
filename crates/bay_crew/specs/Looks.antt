-- Calls of readers, and of a writer beside them.
use Rattle.std.specs.Prelude.{ℕ, ◌%◌, ◌==◌, Bool, true, false}
use Rattle.room_script.specs.declared.trials.Line.{Line}
use Rattle.room_script.specs.declared.trials.Line.TheVariants as lines
use Rattle.bay_crew.specs.Mixes.{line_on}

-- the call k of a caller: who writes puts an item on the stack and takes one by turns, and who reads looks
-- at the top item
abbrev pub crowd_line : Bool → ℕ → Line
crowd_line true k = line_on true (k % 2 == 0) k
crowd_line false k = lines.Peek
