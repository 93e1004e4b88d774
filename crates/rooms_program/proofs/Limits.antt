-- What words tell a command is within its limits.
use Rattle.std.proofs.Common.{ℕ, ◌≤◌, ◌^◌, List, [], ◌∷◌, Option, Some, None, IfSome, arith}
use Rattle.work_pool.specs.Crews.{IsCrew}
use Rattle.command_words.specs.Parts.{workers, blocks, Part, given}
use Rattle.command_words.specs.Words.{IsCount, GiveOptions, AreOperands, Names}
use Rattle.command_words.specs.declared.command.Command.{Command}
use Rattle.command_words.specs.declared.command.Command.TheVariants.{Compact, Mark, Check, Make, Trial, Schedule}
use Rattle.command_words.specs.declared.command.Options.{Options}
use Rattle.command_words.specs.declared.command.Made.{Made}
use Rattle.rooms_program.specs.Limits.{crew_of, IsWithin}

-- the number of an option is within its limits
count_within : (values : List (List ℕ)) (most without count : ℕ) → 1 ≤ without → without ≤ most → IsCount values most without count → (1 ≤ count) × (count ≤ most)
count_within [] most without count least few is = (omega (arith, is, least), omega (arith, is, few))
count_within (value ∷ []) most without count least few is = (is.1, is.2)
count_within (value ∷ more ∷ values) most without count least few is = absurd is

-- options give a crew
crew_within : (parts : List Part) (options : Options) → GiveOptions parts options → IsCrew (crew_of options)
crew_within parts options give = record {
  workers = count_within (given workers parts) 16 1 options.workers (omega arith) (omega arith) give.workers_are;
  blocks = count_within (given blocks parts) 16384 64 options.blocks (omega arith) (omega arith) give.blocks_are;
  paged = give.paged;
  draws = (omega arith, omega arith);
}

-- operands tell an image that can be made up
made_within : (operands : List (List ℕ)) (made : Option Made) → AreOperands operands made → IfSome made (λ image. image.objects ≤ 2 ^ 20)
made_within operands None are = tt
made_within (objects ∷ seed ∷ []) (Some made) are = are.few
made_within operands (Some made) are = absurd are

-- so is what the words tell
pub named_within : (words : List (List ℕ)) (command : Command) → Names words command → IsWithin command
named_within words (Compact options) (parts, are, said) = crew_within parts options said.options_are
named_within words (Mark options made) (parts, are, said) = (crew_within parts options said.options_are, made_within said.operands made said.operands_are)
named_within words (Make made) (parts, are, said) = made_within said.operands (Some made) said.operands_are
named_within words Check named = tt
named_within words Trial named = tt
named_within words Schedule named = tt
