-- The parts of a command line: options with their values, and plain words.
use Rattle.std.specs.Prelude.{◌≡◌, ◌≢◌, ℕ, List, [], ◌∷◌, ◌++◌, codes}
use Rattle.std.specs.List.{All, flat_map}

-- the three options
pub data Name : Type 0 where
  workers : Name
  blocks : Name
  layout : Name

-- the word of an option
abbrev pub word_of : Name → List ℕ
word_of workers = codes "--workers"
word_of blocks = codes "--blocks"
word_of layout = codes "--layout"

-- an option whose value stands in the same word behind `=`, one whose value is the next word, or a plain word
pub data Part : Type 0 where
  joined : Name → List ℕ → Part
  apart : Name → List ℕ → Part
  plain : List ℕ → Part

-- the words of a part
abbrev pub words_of : Part → List (List ℕ)
words_of (joined name value) = (word_of name ++ codes "=" ++ value) ∷ []
words_of (apart name value) = word_of name ∷ value ∷ []
words_of (plain word) = word ∷ []

-- a word that is not empty and does not begin with a hyphen, which is 45
abbrev pub IsPlain : List ℕ → Type 0
IsPlain [] = ⊥
IsPlain (byte ∷ bytes) = byte ≢ 45

-- a value behind `=` is not empty; a value that is a word, and each other word, is a plain one
abbrev pub IsPart : Part → Type 0
IsPart (joined name value) = value ≢ []
IsPart (apart name value) = IsPlain value
IsPart (plain word) = IsPlain word

-- the words are these parts, one after another
pub record AreParts (words : List (List ℕ)) (parts : List Part) : Type 0 where
  pub each : All IsPart parts
  pub words_are : words ≡ flat_map words_of parts

-- the values that a part gives to an option
abbrev pub given_by : Name → Part → List (List ℕ)
given_by workers (joined workers value) = value ∷ []
given_by workers (apart workers value) = value ∷ []
given_by blocks (joined blocks value) = value ∷ []
given_by blocks (apart blocks value) = value ∷ []
given_by layout (joined layout value) = value ∷ []
given_by layout (apart layout value) = value ∷ []
given_by _ _ = []

-- the values that are given to an option, in order
abbrev pub given : Name → List Part → List (List ℕ)
given name parts = flat_map (given_by name) parts

-- a plain word is itself, and an option none
abbrev pub plain_by : Part → List (List ℕ)
plain_by (plain word) = word ∷ []
plain_by (joined name value) = []
plain_by (apart name value) = []

-- the plain words, in order
abbrev pub plains : List Part → List (List ℕ)
plains parts = flat_map plain_by parts
