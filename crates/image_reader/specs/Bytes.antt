-- Which bytes are an image: the magic of a format, two counts, the heap words and the root words.
use Rattle.std.specs.Prelude.{◌≡◌, ℕ, ◌+◌, ◌^◌, ◌<◌, ◌≤◌, List, [], ◌∷◌, ◌++◌, length, All, codes}
use Rattle.std.specs.List.{flat_map}
use Rattle.std.specs.Int.{w64, to_le_bytes}
use Rattle.image_core.specs.Header.{IsFormat}
use Rattle.image_core.specs.Heap.{Heap, IsLawful}

-- the code of a format's digit, above that of the digit 0
abbrev pub digit_of : ℕ → ℕ
digit_of format = 48 + format

-- the magic of a format: a name that all have, and the format's digit
abbrev pub name_bytes : List ℕ
name_bytes = codes "ROOMIMG"

-- the magic of a format
abbrev pub magic_bytes : ℕ → List ℕ
magic_bytes format = name_bytes ++ digit_of format ∷ []

-- the bytes of a word, the lowest first
abbrev pub word_bytes : ℕ → List ℕ
word_bytes word = to_le_bytes w64 word

-- the bytes of these words, the lowest byte of each first
abbrev pub spelled : List ℕ → List ℕ
spelled words = flat_map word_bytes words

-- the magic, how many words and roots there are, the words and the roots, and nothing else
abbrev pub spelling : ℕ → List ℕ → List ℕ → List ℕ
spelling format words roots =
    magic_bytes format ++ word_bytes (length words) ++ word_bytes (length roots) ++ spelled words ++ spelled roots

-- numbers that a word holds
abbrev pub AreWords : List ℕ → Type 0
AreWords words = All (λ word. word < 2 ^ 64) words

-- the bytes spell at most 2 ^ 22 words and 2 ^ 16 roots in a format
pub record Spells (bytes : List ℕ) (format : ℕ) (words roots : List ℕ) : Type 0 where
  pub known : IsFormat format
  pub few_words : length words ≤ 2 ^ 22
  pub few_roots : length roots ≤ 2 ^ 16
  pub words_fit : AreWords words
  pub roots_fit : AreWords roots
  pub spelled_so : bytes ≡ spelling format words roots

-- the bytes are those of an image
pub record IsImage (bytes : List ℕ) (heap : Heap) : Type 0 where
  pub spells : Spells bytes heap.format heap.words heap.roots
  pub lawful : IsLawful heap
