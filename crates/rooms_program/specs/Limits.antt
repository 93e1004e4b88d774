-- The crew of a command, and the limits of what a command is told.
use Rattle.std.specs.Prelude.{◌≡◌, ◌≤◌, ◌^◌, IfSome}
use Rattle.work_pool.specs.declared.crews.Crew.{Crew}
use Rattle.work_pool.specs.Crews.{IsCrew}
use Rattle.command_words.specs.declared.command.Command.{Command}
use Rattle.command_words.specs.declared.command.Command.TheVariants.{Compact, Mark, Check, Make, Trial, Schedule}
use Rattle.command_words.specs.declared.command.Options.{Options}

-- the crew of these options: each of its workers has 2 ^ 48 draws
abbrev pub crew_of : Options → Crew
crew_of options = record { workers = options.workers; blocks = options.blocks; layout = options.layout; draws = 2 ^ 48 }

-- what the command is told is within the limits of a crew, and of an image that is made up
abbrev pub IsWithin : Command → Type 0
IsWithin (Compact options) = IsCrew (crew_of options)
IsWithin (Mark options made) = IsCrew (crew_of options) × IfSome made (λ image. image.objects ≤ 2 ^ 20)
IsWithin (Make made) = made.objects ≤ 2 ^ 20
IsWithin Check = Unit {0}
IsWithin Trial = Unit {0}
IsWithin Schedule = Unit {0}

-- the command reads an input and takes no threads
abbrev pub IsAlone : Command → Type 0
IsAlone (Compact options) = ⊥
IsAlone (Mark options made) = ⊥
IsAlone (Make made) = ⊥
IsAlone Check = Unit {0}
IsAlone Trial = ⊥
IsAlone Schedule = Unit {0}

-- the command is this one
abbrev pub Is : Command → Command → Type 0
Is this command = command ≡ this
