-- The texts that parts give to the options, the command and its operands.
use Rattle.std.specs.Prelude.{◌≡◌, ◌≤◌, ℕ, length, List, [], ◌∷◌, ◌++◌, Option, Some, None}
use Rattle.std.specs.Borrow.{Bor}
use Rattle.command_words.specs.Parts.{Name, workers, blocks, layout, Part, given, plains}
use Rattle.command_words.specs.declared.texts.Texts.{Texts}

-- a text as a list of at most one
abbrev pub listed : Option (Bor (List ℕ)) → List (List ℕ)
listed None = []
listed (Some text) = text.now ∷ []

-- the operands
abbrev pub operands_of : Texts → List (List ℕ)
operands_of texts = listed texts.objects ++ listed texts.seed

-- each option is given at most once, and there are at most three plain words: the command and its operands
pub record AreAssignable (parts : List Part) : Type 0 where
  pub once : (name : Name) → length (given name parts) ≤ 1
  pub few : length (plains parts) ≤ 3

-- and these are the texts
pub record Assigns (parts : List Part) (texts : Texts) : Type 0 where
  pub workers_are : given workers parts ≡ listed texts.workers
  pub blocks_are : given blocks parts ≡ listed texts.blocks
  pub layout_is : given layout parts ≡ listed texts.layout
  pub plains_are : plains parts ≡ listed texts.command ++ operands_of texts
  pub command_first : texts.command ≡ None → operands_of texts ≡ []
  pub objects_first : texts.objects ≡ None → texts.seed ≡ None
