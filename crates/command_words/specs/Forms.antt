-- What a word is by itself, and when words are parts.
use Rattle.std.specs.Prelude.{◌≡◌, ◌≢◌, ℕ, List, [], ◌∷◌, ◌++◌, Bool, true, false}
use Rattle.command_words.specs.Parts.{Name, word_of, IsPlain, Part, AreParts}
use Rattle.command_words.specs.declared.parts.Form.{Form}
use Rattle.command_words.specs.declared.parts.Form.TheVariants.{Plain, Joined, Apart, Other}

-- behind the option stands nothing, or `=`, which is 61, and a value
abbrev pub IsRestForm : List ℕ → Form → Type 0
IsRestForm rest Apart = rest ≡ []
IsRestForm rest Joined = (value : List ℕ) × (value ≢ []) × (rest ≡ 61 ∷ value)
IsRestForm rest _ = ⊥

-- the word is an option alone, or with a value behind `=`
abbrev pub IsOptionForm : List ℕ → List ℕ → Form → Type 0
IsOptionForm word option form = (rest : List ℕ) × (word ≡ option ++ rest) × IsRestForm rest form

-- the word is of this form
abbrev pub IsForm : List ℕ → Form → Type 0
IsForm word Plain = IsPlain word
IsForm word Joined = (name : Name) × IsOptionForm word (word_of name) Joined
IsForm word Apart = (name : Name) × IsOptionForm word (word_of name) Apart
IsForm word Other = (¬ IsPlain word) × ((name : Name) (form : Form) → ¬ IsOptionForm word (word_of name) form)

-- the words are parts
abbrev pub HaveParts : List (List ℕ) → Type 0
HaveParts words = (parts : List Part) × AreParts words parts

-- the words that are left, where a value is wanted first or is not
abbrev pub Follow : Bool → List (List ℕ) → Type 0
Follow false words = HaveParts words
Follow true [] = ⊥
Follow true (word ∷ words) = IsPlain word × HaveParts words
