-- A set by its words.
use Rattle.std.specs.Prelude.{◌≡◌, ◌+◌, ◌/◌, Bool, List, vec_len}
use Rattle.bit_sets.specs.Bits.{bits_of}
use Rattle.bit_sets.specs.declared.bit_set.BitSet.TheInside.{Inside}

-- for each number whether its bit is 1
abbrev pub shown : Inside → List Bool
shown s = bits_of s.len s.words.items

-- there is a word for each 64 numbers, and one for the rest
abbrev pub IsWide : Inside → Type 0
IsWide s = vec_len s.words ≡ s.len / 64 + 1
