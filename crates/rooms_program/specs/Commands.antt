-- The commands: which read, the inputs that are accepted, the output of an input, and what is refused.
use Rattle.std.specs.Prelude.{ℕ, ◌<◌, ◌≤◌, List, length, Some, None}
use Rattle.image_core.specs.Heap.{Heap}
use Rattle.image_reader.specs.Bytes.{IsImage}
use Rattle.image_reader.specs.Fault.{HasFault}
use Rattle.image_reader.specs.Made.{made}
use Rattle.room_script.specs.Lines.{lines_of}
use Rattle.room_script.specs.Schedules.{IsSchedule}
use Rattle.room_script.specs.Trials.{IsTrial}
use Rattle.command_words.specs.declared.command.Command.{Command}
use Rattle.command_words.specs.declared.command.Command.TheVariants.{Compact, Mark, Check, Make, Trial, Schedule}
use Rattle.image_slide.specs.Compact.{IsCompacted}
use Rattle.rooms_program.specs.Schedules.{IsRunnable, IsScheduled, IsStopped}
use Rattle.rooms_program.specs.Sizes.{IsChecked, IsMarked, IsSummary}
use Rattle.rooms_program.specs.Texts.{most_text, IsBroken}
use Rattle.rooms_program.specs.Trials.{IsTried}
use Rattle.rooms_program.specs.declared.status.Status.{Status}
use Rattle.rooms_program.specs.declared.status.Status.TheVariants.{Image, Script, Act, TooLong}

-- the command reads its source; one that makes its image up does not
abbrev pub Reads : Command → Type 0
Reads (Compact options) = Unit {0}
Reads (Mark options None) = Unit {0}
Reads (Mark options (Some image)) = ⊥
Reads Check = Unit {0}
Reads (Make image) = ⊥
Reads Trial = Unit {0}
Reads Schedule = Unit {0}

-- the most bytes of an image: 24, and 8 for each of 2 ^ 22 words and 2 ^ 16 roots
abbrev pub most_image : ℕ
most_image = 34078744

-- the most bytes of an input
abbrev pub most_bytes : Command → ℕ
most_bytes (Compact options) = most_image
most_bytes (Mark options image) = most_image
most_bytes Check = most_image
most_bytes (Make image) = 0
most_bytes Trial = most_text
most_bytes Schedule = most_text

-- bytes that are an image
abbrev pub IsAnImage : List ℕ → Type 0
IsAnImage input = (heap : Heap) × IsImage input heap

-- an input is accepted: it is an image; a schedule of which the core accepts each act; or a trial that is not too long
abbrev pub Accepts : Command → List ℕ → Type 0
Accepts (Compact options) input = IsAnImage input
Accepts (Mark options None) input = IsAnImage input
Accepts (Mark options (Some image)) input = Unit {0}
Accepts Check input = IsAnImage input
Accepts (Make image) input = Unit {0}
Accepts Trial input = (length input ≤ most_text) × IsTrial (lines_of input)
Accepts Schedule input = IsRunnable input

-- an output of an input: that of an image is the same for each crew; a trial may have several, by which caller comes first
abbrev pub IsOutput : Command → List ℕ → List ℕ → Type 0
IsOutput (Compact options) input output = IsCompacted input output
IsOutput (Mark options None) input output = IsMarked input output
IsOutput (Mark options (Some image)) input output = IsSummary (made image.objects image.seed) output
IsOutput Check input output = IsChecked input output
IsOutput (Make image) input output = IsImage output (made image.objects image.seed)
IsOutput Trial input output = IsTried input output
IsOutput Schedule input output = IsScheduled input output

-- the bytes are refused as an image, and this says why
abbrev pub RefusesImage : List ℕ → Status → Type 0
RefusesImage bytes (Image fault) = HasFault bytes fault
RefusesImage bytes _ = ⊥

-- as a trial
abbrev pub RefusesTrial : List ℕ → Status → Type 0
RefusesTrial bytes TooLong = most_text < length bytes
RefusesTrial bytes (Script line) = IsBroken IsTrial bytes line
RefusesTrial bytes _ = ⊥

-- as a schedule
abbrev pub RefusesSchedule : List ℕ → Status → Type 0
RefusesSchedule bytes TooLong = most_text < length bytes
RefusesSchedule bytes (Script line) = IsBroken IsSchedule bytes line
RefusesSchedule bytes (Act at why) = IsStopped bytes at why
RefusesSchedule bytes _ = ⊥

-- the bytes of an input are refused, and this says why
abbrev pub Refuses : Command → List ℕ → Status → Type 0
Refuses (Compact options) bytes why = RefusesImage bytes why
Refuses (Mark options None) bytes why = RefusesImage bytes why
Refuses (Mark options (Some image)) bytes why = ⊥
Refuses Check bytes why = RefusesImage bytes why
Refuses (Make image) bytes why = ⊥
Refuses Trial bytes why = RefusesTrial bytes why
Refuses Schedule bytes why = RefusesSchedule bytes why
