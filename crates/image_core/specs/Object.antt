-- The words of one object, by the place of its header.
use Rattle.std.specs.Prelude.{ℕ, ◌+◌, ◌≤◌, List, length, slice_index, slice_range}
use Rattle.image_core.specs.Header.{refs_of, weak_of, names_of, size_of}

-- how many words the object has
abbrev pub size_at : ℕ → List ℕ → ℕ → ℕ
size_at format words head = size_of format (slice_index words head)

-- how many of them are references
abbrev pub refs_at : List ℕ → ℕ → ℕ
refs_at words head = refs_of (slice_index words head)

-- how many are weak references
abbrev pub weak_at : ℕ → List ℕ → ℕ → ℕ
weak_at format words head = weak_of format (slice_index words head)

-- how many are either
abbrev pub names_at : ℕ → List ℕ → ℕ → ℕ
names_at format words head = names_of format (slice_index words head)

-- its reference words
abbrev pub references_at : List ℕ → ℕ → List ℕ
references_at words head = slice_range words (head + 1) (head + 1 + refs_at words head)

-- its weak words, which follow those
abbrev pub weak_references_at : ℕ → List ℕ → ℕ → List ℕ
weak_references_at format words head =
    slice_range words (head + 1 + refs_at words head) (head + 1 + names_at format words head)

-- its words that name objects: both
abbrev pub naming_at : ℕ → List ℕ → ℕ → List ℕ
naming_at format words head = slice_range words (head + 1) (head + 1 + names_at format words head)

-- its data words
abbrev pub data_at : ℕ → List ℕ → ℕ → List ℕ
data_at format words head =
    slice_range words (head + 1 + names_at format words head) (head + size_at format words head)

-- it ends within the words
abbrev pub Fits : ℕ → List ℕ → ℕ → Type 0
Fits format words head = head + size_at format words head ≤ length words
