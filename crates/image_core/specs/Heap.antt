-- What an image is: objects that stand end to end, and words that name them.
use Rattle.std.specs.Prelude.{◌≡◌, ℕ, ◌+◌, ◌^◌, ◌<◌, ◌≤◌, ◌⊎◌, List, [], ◌∷◌, length, slice_index, All, Any}
use Rattle.image_core.specs.Header.{IsFormat}
use Rattle.image_core.specs.Object.{size_at, naming_at}

-- the format of an image, its words, its roots, and the places of its headers in order
pub record Heap : Type 0 where
  pub format : ℕ
  pub words : List ℕ
  pub roots : List ℕ
  pub heads : List ℕ

-- where the header of an object stands
abbrev pub head_of : Heap → ℕ → ℕ
head_of heap object = slice_index heap.heads object

-- from a place on, objects of a format stand end to end with their headers at these places, up to `end`
abbrev pub Stand : ℕ → List ℕ → ℕ → List ℕ → ℕ → Type 0
Stand format words from [] end = from ≡ end
Stand format words from (head ∷ heads) end =
    (head ≡ from) × (from < length words) × Stand format words (from + size_at format words from) heads end

-- objects with these headers fill the words
abbrev pub Fill : ℕ → List ℕ → List ℕ → Type 0
Fill format words heads = Stand format words 0 heads (length words)

-- a word is 0, or 1 + the place of a header
abbrev pub Names : List ℕ → ℕ → Type 0
Names heads word = (word ≡ 0) ⊎ Any (λ head. word ≡ 1 + head) heads

-- so is each reference word and each weak word of each object
abbrev pub EachReferenceNames : ℕ → List ℕ → List ℕ → Type 0
EachReferenceNames format words heads = All (λ head. All (Names heads) (naming_at format words head)) heads

-- what holds of each image
pub record IsLawful (heap : Heap) : Type 0 where
  pub known : IsFormat heap.format
  pub few_words : length heap.words ≤ 2 ^ 22
  pub few_roots : length heap.roots ≤ 2 ^ 16
  pub few_objects : length heap.heads ≤ 2 ^ 20
  pub fill : Fill heap.format heap.words heap.heads
  pub references : EachReferenceNames heap.format heap.words heap.heads
  pub roots : All (Names heap.heads) heap.roots

-- the heap is the lawful one of these words and roots in this format
pub record IsHeapOf (format : ℕ) (words roots : List ℕ) (heap : Heap) : Type 0 where
  pub format_is : heap.format ≡ format
  pub words_are : heap.words ≡ words
  pub roots_are : heap.roots ≡ roots
  pub lawful : IsLawful heap
