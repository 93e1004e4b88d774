-- The command that `clap` is told of: three options and three operands, all of them texts.
use Rattle.std.specs.Prelude.{◌≡◌, ℕ, List, Some, codes, true, drop, option_map}
use Rattle.clap.specs.Words.{App, Rule, Shape, new_app, new_rule, with_rule}
use Rattle.clap.specs.Simple.{on_top}
use Rattle.clap.specs.Words.{first_of, matches_of}
use Rattle.command_words.specs.declared.texts.Texts.{Texts}
use Rattle.command_words.specs.Parts.{Name, word_of}

-- an option's name, which is its word without the hyphens
abbrev pub id_of : Name → List ℕ
id_of name = drop 2 (word_of name)

-- an operand, and an option
abbrev pub option_rule : List ℕ → Rule
option_rule id = record (new_rule id) { long = Some id }

-- words from the first on, with no help and no version
abbrev pub bare : Shape → Shape
bare s = record s { no_binary_name = true; disable_help_flag = true; disable_version_flag = true }

-- a command of this name in which each word counts
abbrev pub bare_app : List ℕ → App
bare_app name = on_top bare (new_app name)

-- the command with its options and operands
abbrev pub words_app : App
words_app =
    with_rule (with_rule (with_rule (with_rule (with_rule (with_rule (bare_app (codes "rooms"))
    (option_rule (codes "workers"))) (option_rule (codes "blocks"))) (option_rule (codes "layout")))
    (new_rule (codes "command"))) (new_rule (codes "objects"))) (new_rule (codes "seed"))

-- the texts are what the matches have
pub record AreMatched (words : List (List ℕ)) (texts : Texts) : Type 0 where
  pub workers_read : option_map (λ s. s.now) texts.workers ≡ first_of (codes "workers") (matches_of words_app words)
  pub blocks_read : option_map (λ s. s.now) texts.blocks ≡ first_of (codes "blocks") (matches_of words_app words)
  pub layout_read : option_map (λ s. s.now) texts.layout ≡ first_of (codes "layout") (matches_of words_app words)
  pub command_read : option_map (λ s. s.now) texts.command ≡ first_of (codes "command") (matches_of words_app words)
  pub objects_read : option_map (λ s. s.now) texts.objects ≡ first_of (codes "objects") (matches_of words_app words)
  pub seed_read : option_map (λ s. s.now) texts.seed ≡ first_of (codes "seed") (matches_of words_app words)
