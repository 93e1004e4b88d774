-- What a run of a command did to its source, its sink and its notes.
use Rattle.std.specs.Prelude.{◌≡◌, ◌≢◌, ℕ, None, Err, ◌+◌, ◌⊎◌, List, Vec, length, take, IfOk, IfErr, IfSome}
use Rattle.std.specs.Global.{Global}
use Rattle.std.specs.declared.option.Option.{Option}
use Rattle.std.specs.declared.result.Result.{Result}
use Rattle.std.specs.Io.KnownBytes.{Appends, Consumes, IsAtEnd}
use Rattle.room_io.specs.Causes.{Rose, AppendsPrefix}
use Rattle.rooms_program.specs.Commands.{Reads, most_bytes, Accepts, IsOutput, Refuses}
use Rattle.command_words.specs.declared.command.Command.{Command}
use Rattle.rooms_program.specs.declared.status.Status.{Status}
use Rattle.rooms_program.specs.declared.status.Status.TheVariants as status
use Rattle.rooms_program.specs.Limits.{Is}
use Rattle.rooms_program.specs.Statuses.{note_of}

-- these bytes were read: all of the input, or one more than the most that can be accepted
pub record WasRead (most : ℕ) (left now_left : Option (List ℕ)) (bytes : List ℕ) : Type 0 where
  pub taken : Consumes left now_left bytes
  pub enough : IsAtEnd now_left ⊎ (length bytes ≡ most + 1)

-- the input was read to its end, where the command reads, and of an output of it the sink gained what this relation tells
pub record Wrote (Gained : Option (List ℕ) → Option (List ℕ) → List ℕ → Type 0) (command : Command)
    (left now_left written now_written : Option (List ℕ)) : Type 0 where
  pub input : List ℕ
  pub output : List ℕ
  pub taken : Reads command → Consumes left now_left input
  pub ended : Reads command → IsAtEnd now_left
  pub defined : IsOutput command input output
  pub wrote : Gained written now_written output

-- the bytes that were read are refused, and the status says why
pub record WasRefused (command : Command) (left now_left : Option (List ℕ)) (why : Status) : Type 0 where
  pub bytes : List ℕ
  pub read : WasRead (most_bytes command) left now_left bytes
  pub refuses : Refuses command bytes why

-- an input that is accepted gets an output, and one whose bytes are refused gets that refusal, unless memory is wanting
pub record IsAnswered (command : Command) (input : List ℕ) (answer : Status) : Type 0 where
  pub accepts : Accepts command input → (answer ≡ status.Good) ⊎ (answer ≡ status.Memory)
  pub refuses : (why : Status) → Refuses command (take (most_bytes command + 1) input) why → (answer ≡ why) ⊎ (answer ≡ status.Memory)

-- a refusal of the bytes that were read
abbrev pub IsRefusal : Status → Type 0
IsRefusal (status.Image fault) = Unit {0}
IsRefusal (status.Script line) = Unit {0}
IsRefusal (status.Act at why) = Unit {0}
IsRefusal status.TooLong = Unit {0}
IsRefusal _ = ⊥

-- an output of these bytes, or why there is none: each cause that they give is told, unless memory runs out
pub record Makes (command : Command) (bytes : List ℕ) (made : Result (Vec ℕ Global) Status) : Type 0 where
  pub output : IfOk made (λ output. IsOutput command bytes output.items)
  pub why : IfErr made (λ why. (why ≡ status.Memory) ⊎ (IsRefusal why × Refuses command bytes why))
  pub accepts : Accepts command bytes → IfErr made (λ why. why ≡ status.Memory)
  pub refuses : (why : Status) → Refuses command bytes why → (made ≡ Err why) ⊎ (made ≡ Err status.Memory)

-- the notes gained the whole text, or a prefix of it where their count of faults rose
abbrev pub IsNoted : Option (List ℕ) → Option (List ℕ) → ℕ → ℕ → List ℕ → Type 0
IsNoted old new faults now_faults text = Appends old new text ⊎ (Rose faults now_faults × AppendsPrefix old new text)

-- what a run leaves of its source and its sink, where these are the commands that it was told, and this is its answer
pub record Leaves {S K : Type 0} (left : S → Option (List ℕ)) (read_faults : S → ℕ) (written : K → Option (List ℕ)) (write_faults : K → ℕ)
    (Told : Command → Type 0) (source now_source : S) (sink now_sink : K) (answer : Status) : Type 0 where
  pub words : answer ≡ status.Words → (command : Command) → ¬ Told command
  pub unnamed : ((command : Command) → ¬ Told command) → (answer ≡ status.Words) ⊎ (answer ≡ status.Memory)
  pub unread : ((command : Command) → Told command → ¬ Reads command) → now_source ≡ source
  pub good : (command : Command) → Told command → answer ≡ status.Good
      → Wrote Appends command (left source) (left now_source) (written sink) (written now_sink)
  pub refused : (command : Command) → Told command → IsRefusal answer → WasRefused command (left source) (left now_source) answer
  pub read : answer ≡ status.ReadFault → Rose (read_faults source) (read_faults now_source)
  pub reader : (command : Command) → Told command → answer ≡ status.ReadFault → Reads command
  pub write : answer ≡ status.WriteFault → Rose (write_faults sink) (write_faults now_sink)
  pub cut : (command : Command) → Told command → answer ≡ status.WriteFault
      → Wrote AppendsPrefix command (left source) (left now_source) (written sink) (written now_sink)
  pub unwritten : answer ≢ status.Good → answer ≢ status.WriteFault → now_sink ≡ sink
  pub complete : (command : Command) → Told command → IfSome (left source) (λ input.
      ¬ Rose (read_faults source) (read_faults now_source) → ¬ Rose (write_faults sink) (write_faults now_sink) → IsAnswered command input answer)
  pub made : (command : Command) → Told command → ¬ Reads command → ¬ Rose (write_faults sink) (write_faults now_sink)
      → (answer ≡ status.Good) ⊎ (answer ≡ status.Memory)

-- what a run of this command that has no source leaves of its sink
abbrev pub LeavesMade : {K : Type 0} → (K → Option (List ℕ)) → (K → ℕ) → Command → K → K → Status → Type 0
LeavesMade written write_faults this sink now_sink answer =
    Leaves {S = Unit {0}} (λ _. None) (λ _. 0) written write_faults (Is this) tt tt sink now_sink answer

-- what a run with this answer leaves of its notes
pub record LeavesNote {N : Type 0} (written : N → Option (List ℕ)) (faults : N → ℕ) (notes now_notes : N) (answer : Status) : Type 0 where
  pub noted : answer ≢ status.Good → IsNoted (written notes) (written now_notes) (faults notes) (faults now_notes) (note_of answer)
  pub silent : answer ≡ status.Good → now_notes ≡ notes
