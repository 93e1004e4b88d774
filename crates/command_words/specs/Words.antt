-- Which words name a command, and which command.
use Rattle.std.specs.Prelude.{◌≡◌, ℕ, ◌^◌, ◌≤◌, List, [], ◌∷◌, codes, Option, Some, None}
use Rattle.room_script.specs.Numbers.{IsNumber}
use Rattle.bay_core.specs.declared.calls.Layout.{Layout}
use Rattle.bay_core.specs.declared.calls.Layout.TheVariants.{Split, Paged}
use Rattle.command_words.specs.Parts.{workers, blocks, layout, Part, AreParts, given, plains}
use Rattle.command_words.specs.declared.command.Command.{Command}
use Rattle.command_words.specs.declared.command.Command.TheVariants.{Compact, Mark, Check, Make, Trial, Schedule}
use Rattle.command_words.specs.declared.command.Options.{Options}
use Rattle.command_words.specs.declared.command.Made.{Made}

-- the word of a command
abbrev pub name_of : Command → List ℕ
name_of (Compact options) = codes "compact"
name_of (Mark options made) = codes "mark"
name_of Check = codes "check"
name_of (Make made) = codes "make"
name_of Trial = codes "trial"
name_of Schedule = codes "schedule"

-- the options that a command takes, if it takes any
abbrev pub options_of : Command → Option Options
options_of (Compact options) = Some options
options_of (Mark options made) = Some options
options_of Check = None
options_of (Make made) = None
options_of Trial = None
options_of Schedule = None

-- which image a command makes up, if it makes one up
abbrev pub made_of : Command → Option Made
made_of (Compact options) = None
made_of (Mark options made) = made
made_of Check = None
made_of (Make made) = Some made
made_of Trial = None
made_of Schedule = None

-- a command has this name, takes these options and makes this image up
pub record IsCalled (name : List ℕ) (options : Option Options) (made : Option Made) (command : Command) : Type 0 where
  pub named : name ≡ name_of command
  pub optional : options_of command ≡ options
  pub made_up : made_of command ≡ made

-- the values of an option: one number from 1 to the most, or none, which means this number
abbrev pub IsCount : List (List ℕ) → ℕ → ℕ → ℕ → Type 0
IsCount [] most without count = count ≡ without
IsCount (value ∷ []) most without count = IsNumber value count × (1 ≤ count) × (count ≤ most)
IsCount (value ∷ more ∷ values) most without count = ⊥

-- the word of a layout
abbrev pub layout_word : Layout → List ℕ
layout_word Split = codes "split"
layout_word Paged = codes "paged"

-- the values of the option of the layout: its word, or none, which means that it is split
abbrev pub IsLayout : List (List ℕ) → Layout → Type 0
IsLayout [] chosen = chosen ≡ Split
IsLayout (value ∷ []) chosen = value ≡ layout_word chosen
IsLayout (value ∷ more ∷ values) chosen = ⊥

-- the parts give these options, each at most once
pub record GiveOptions (parts : List Part) (options : Options) : Type 0 where
  pub workers_are : IsCount (given workers parts) 16 1 options.workers
  pub blocks_are : IsCount (given blocks parts) 16384 64 options.blocks
  pub layout_is : IsLayout (given layout parts) options.layout
  -- two lists that share blocks need two of them
  pub paged : options.layout ≡ Paged → 2 ≤ options.blocks

-- they give none
pub record GiveNone (parts : List Part) : Type 0 where
  pub no_workers : given workers parts ≡ []
  pub no_blocks : given blocks parts ≡ []
  pub no_layout : given layout parts ≡ []

-- the options of a command stand among the parts; a command that takes none has none
abbrev pub HaveOptions : List Part → Option Options → Type 0
HaveOptions parts (Some options) = GiveOptions parts options
HaveOptions parts None = GiveNone parts

-- two operands: how many objects, at most 2 ^ 20, and a seed
pub record IsMade (objects seed : List ℕ) (made : Made) : Type 0 where
  pub objects_are : IsNumber objects made.objects
  pub few : made.objects ≤ 2 ^ 20
  pub seed_is : IsNumber seed made.seed

-- the operands say which image is made up; there are none where none is
abbrev pub AreOperands : List (List ℕ) → Option Made → Type 0
AreOperands [] None = Unit {0}
AreOperands (objects ∷ seed ∷ []) (Some made) = IsMade objects seed made
AreOperands _ _ = ⊥

-- the parts say the command: its word, its operands, its options
pub record IsSaid (parts : List Part) (command : Command) : Type 0 where
  pub operands : List (List ℕ)
  pub words_are : plains parts ≡ name_of command ∷ operands
  pub operands_are : AreOperands operands (made_of command)
  pub options_are : HaveOptions parts (options_of command)

-- the words name the command
abbrev pub Names : List (List ℕ) → Command → Type 0
Names words command = (parts : List Part) × AreParts words parts × IsSaid parts command
