-- Which test of the bytes of an image fails first, at which place, and with which value there.
use Rattle.std.specs.Prelude.{◌≡◌, ℕ, ◌+◌, ◌-◌, ◌*◌, ◌^◌, ◌<◌, ◌≤◌, ◌⊎◌, List, length, take, slice_index, slice_range}
use Rattle.std.specs.Int.{w64, from_le_bytes}
use Rattle.image_core.specs.Header.{IsFormat}
use Rattle.image_core.specs.Fault.{WordsFail}
use Rattle.image_core.specs.declared.fault.ImageFault.{ImageFault}
use Rattle.image_core.specs.declared.fault.ImageKind.{ImageKind}
use Rattle.image_core.specs.declared.fault.ImageKind.TheVariants.{Short, Magic, TooManyWords, TooManyRoots, Long, Overrun, TooManyObjects, BadRef, BadRoot}
use Rattle.image_reader.specs.Bytes.{magic_bytes, digit_of, Spells}

-- the number that eight bytes from a place on spell
abbrev pub word_at : List ℕ → ℕ → ℕ
word_at bytes place = from_le_bytes w64 (slice_range bytes place (place + 8))

-- which format the byte behind the magic's name says, by its digit
abbrev pub format_said : List ℕ → ℕ
format_said bytes = slice_index bytes 7 - digit_of 0

-- how many words the header says, and how many roots
abbrev pub words_said : List ℕ → ℕ
words_said bytes = word_at bytes 8

-- the number of roots that the frame says
abbrev pub roots_said : List ℕ → ℕ
roots_said bytes = word_at bytes 16

-- how many bytes there should be, as the header says
abbrev pub length_said : List ℕ → ℕ
length_said bytes = 24 + 8 * (words_said bytes + roots_said bytes)

-- there is a header, and it begins with the magic of a format
pub record HasMagic (bytes : List ℕ) : Type 0 where
  pub long_enough : 24 ≤ length bytes
  pub known : IsFormat (format_said bytes)
  pub magic_there : take 8 bytes ≡ magic_bytes (format_said bytes)

-- and its counts are within the limits
pub record HasHeader (bytes : List ℕ) : Type 0 where
  pub begins : HasMagic bytes
  pub few_words : words_said bytes ≤ 2 ^ 22
  pub few_roots : roots_said bytes ≤ 2 ^ 16

-- the magic of a format has this byte at this place
abbrev pub IsMagicByte : ℕ → ℕ → Type 0
IsMagicByte place byte = (format : ℕ) × IsFormat format × (byte ≡ slice_index (magic_bytes format) place)

-- the first byte that is not that of a magic
pub record IsOtherMagic (bytes : List ℕ) (place : ℕ) : Type 0 where
  pub within : place < 8
  pub differs : ¬ IsMagicByte place (slice_index bytes place)
  pub first : (earlier : ℕ) → earlier < place → IsMagicByte earlier (slice_index bytes earlier)

-- all tests of the header and of the length pass, and this is the first that the words and roots fail
abbrev pub SpelledFail : List ℕ → ImageKind → ℕ → ℕ → Type 0
SpelledFail bytes kind place value =
    (format : ℕ) × (words : List ℕ) × (roots : List ℕ) × Spells bytes format words roots
    × WordsFail format words roots kind place value

-- the test of this kind is the first that the bytes fail; the tests stand in their order, and the second of the length is of the kind Short too
abbrev pub BytesFail : List ℕ → ImageKind → ℕ → ℕ → Type 0
BytesFail bytes Short place value =
    (place ≡ length bytes)
    × (((length bytes < 24) × (value ≡ 24))
    ⊎ (HasHeader bytes × (length bytes < length_said bytes) × (value ≡ length_said bytes)))
BytesFail bytes Magic place value = (24 ≤ length bytes) × IsOtherMagic bytes place × (value ≡ slice_index bytes place)
BytesFail bytes TooManyWords place value =
    HasMagic bytes × (2 ^ 22 < words_said bytes) × (place ≡ 8) × (value ≡ words_said bytes)
BytesFail bytes TooManyRoots place value =
    HasMagic bytes × (words_said bytes ≤ 2 ^ 22) × (2 ^ 16 < roots_said bytes) × (place ≡ 16) × (value ≡ roots_said bytes)
BytesFail bytes Long place value =
    HasHeader bytes × (length_said bytes < length bytes) × (place ≡ length_said bytes) × (value ≡ slice_index bytes place)
BytesFail bytes Overrun place value = SpelledFail bytes Overrun place value
BytesFail bytes TooManyObjects place value = SpelledFail bytes TooManyObjects place value
BytesFail bytes BadRef place value = SpelledFail bytes BadRef place value
BytesFail bytes BadRoot place value = SpelledFail bytes BadRoot place value

-- the fault of bytes that are no image
abbrev pub HasFault : List ℕ → ImageFault → Type 0
HasFault bytes fault = BytesFail bytes fault.kind fault.place fault.value
