-- A text is a trial, or it is refused in one way.
use Rattle.std.proofs.Common.{◌≡◌, ℕ, ◌≤◌, List, length, arith}
use Rattle.room_script.specs.Lines.{lines_of}
use Rattle.room_script.specs.Breaks.{BreaksAt}
use Rattle.room_script.specs.Trials.{IsTrial}
use Rattle.rooms_program.specs.Commands.{Refuses}
use Rattle.rooms_program.specs.Texts.{most_text}
use Rattle.command_words.specs.declared.command.Command.TheVariants.{Trial}
use Rattle.rooms_program.specs.declared.status.Status.{Status}
use Rattle.rooms_program.specs.declared.status.Status.TheVariants as status

-- a text that is not too long is refused with a line that breaks the rules
pub refused_line : (text : List ℕ) → length text ≤ most_text → (why : Status) → Refuses Trial text why
    → (line : ℕ) × (why ≡ status.Script line) × BreaksAt IsTrial (lines_of text) line
refused_line text few status.TooLong r = absurd (omega (arith, few, r))
refused_line text few (status.Script line) r = (line, cc, r.breaks)
refused_line text few (status.Act at act) r = absurd r
refused_line text few (status.Image fault) r = absurd r
refused_line text few status.Good r = absurd r
refused_line text few status.Words r = absurd r
refused_line text few status.ReadFault r = absurd r
refused_line text few status.WriteFault r = absurd r
refused_line text few status.Memory r = absurd r
