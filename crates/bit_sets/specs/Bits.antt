-- Bits of words.
use Rattle.std.specs.Prelude.{ℕ, ◌/◌, ◌%◌, List, Bool, nat_eq, map, slice_index}
use Rattle.std.specs.Int.{bit_at}
use Rattle.std.specs.List.{range_with_len}

-- the value of bit b, 0 or 1: it is bit b mod 64 of word b div 64
abbrev pub bit_of : List ℕ → ℕ → ℕ
bit_of words b = bit_at (slice_index words (b / 64)) (b % 64)

-- whether bit b is 1
abbrev pub is_one : List ℕ → ℕ → Bool
is_one words b = nat_eq (bit_of words b) 1

-- for each of the first so many bits whether it is 1
abbrev pub bits_of : ℕ → List ℕ → List Bool
bits_of many words = map (is_one words) (range_with_len 0 many)
