-- The parts of a header word, by the format of the image.
use Rattle.std.specs.Prelude.{◌≡◌, ℕ, ◌+◌, ◌/◌, ◌%◌, ◌^◌, ◌⊎◌, ◌==◌, if◌then◌else◌}

-- there are two formats
abbrev pub IsFormat : ℕ → Type 0
IsFormat format = (format ≡ 1) ⊎ (format ≡ 2)

-- how many reference words follow the header
unfoldable pub refs_of : ℕ → ℕ
refs_of header = header % 2 ^ 16

-- how many weak words follow those; format 1 has none
unfoldable pub weak_of : ℕ → ℕ → ℕ
weak_of format header = if format == 2 then header / 2 ^ 32 % 2 ^ 16 else 0

-- how many data words follow those
unfoldable pub plain_of : ℕ → ℕ
plain_of header = header / 2 ^ 16 % 2 ^ 16

-- the tag that the object carries: all bits above the counts
unfoldable pub tag_of : ℕ → ℕ → ℕ
tag_of format header = if format == 2 then header / 2 ^ 48 else header / 2 ^ 32

-- how many words name objects, weak or not
abbrev pub names_of : ℕ → ℕ → ℕ
names_of format header = refs_of header + weak_of format header

-- how many words the object has, its header too
abbrev pub size_of : ℕ → ℕ → ℕ
size_of format header = 1 + names_of format header + plain_of header
