-- Which test of an image fails first, at which place, and with which value there.
use Rattle.std.specs.Prelude.{◌≡◌, ℕ, ◌+◌, ◌^◌, ◌<◌, ◌≤◌, ◌⊎◌, List, length, slice_index, Contains}
use Rattle.image_core.specs.Object.{size_at, names_at}
use Rattle.image_core.specs.Heap.{Stand, Fill, Names, EachReferenceNames}
use Rattle.image_core.specs.declared.fault.ImageFault.{ImageFault}
use Rattle.image_core.specs.declared.fault.ImageKind.{ImageKind}
use Rattle.image_core.specs.declared.fault.ImageKind.TheVariants.{Short, Magic, TooManyWords, TooManyRoots, Long, Overrun, TooManyObjects, BadRef, BadRoot}
use Rattle.image_core.specs.declared.fault.ReadImage.{ReadImage}
use Rattle.image_core.specs.declared.fault.ReadImage.TheVariants.{Fault, Memory}

-- walking from word 0, the object whose header stands here ends past the last word
abbrev pub Overruns : ℕ → List ℕ → ℕ → Type 0
Overruns format words place =
    (heads : List ℕ) × Stand format words 0 heads place
    × (place < length words) × (length words < place + size_at format words place)

-- a place among the reference words and weak words of some object
abbrev pub IsReference : ℕ → List ℕ → List ℕ → ℕ → Type 0
IsReference format words heads place =
    (head : ℕ) × Contains heads head × (head < place) × (place ≤ head + names_at format words head)

-- the first reference or weak word that names nothing
pub record IsBadReference (format : ℕ) (words heads : List ℕ) (place : ℕ) : Type 0 where
  pub reference : IsReference format words heads place
  pub unnamed : ¬ Names heads (slice_index words place)
  pub first : (earlier : ℕ) → earlier < place → IsReference format words heads earlier
      → Names heads (slice_index words earlier)

-- the first of these words that names nothing
pub record IsFirstUnnamed (words heads : List ℕ) (place : ℕ) : Type 0 where
  pub within : place < length words
  pub unnamed : ¬ Names heads (slice_index words place)
  pub first : (earlier : ℕ) → earlier < place → Names heads (slice_index words earlier)

-- the test of this kind is the first that fails on words and roots of a format; the first five kinds are of bytes alone
abbrev pub WordsFail : ℕ → List ℕ → List ℕ → ImageKind → ℕ → ℕ → Type 0
WordsFail format words roots Overrun place value = Overruns format words place × (value ≡ slice_index words place)
WordsFail format words roots TooManyObjects place value =
    (heads : List ℕ) × Fill format words heads × (2 ^ 20 < length heads)
    × (place ≡ slice_index heads (2 ^ 20)) × (value ≡ slice_index words place)
WordsFail format words roots BadRef place value =
    (heads : List ℕ) × Fill format words heads × (length heads ≤ 2 ^ 20)
    × IsBadReference format words heads place × (value ≡ slice_index words place)
WordsFail format words roots BadRoot place value =
    (heads : List ℕ) × Fill format words heads × (length heads ≤ 2 ^ 20) × EachReferenceNames format words heads
    × IsFirstUnnamed roots heads place × (value ≡ slice_index roots place)
WordsFail format words roots Short place value = ⊥
WordsFail format words roots Magic place value = ⊥
WordsFail format words roots TooManyWords place value = ⊥
WordsFail format words roots TooManyRoots place value = ⊥
WordsFail format words roots Long place value = ⊥

-- the fault of words and roots that are no image of a format
abbrev pub HasFault : ℕ → List ℕ → List ℕ → ImageFault → Type 0
HasFault format words roots fault = WordsFail format words roots fault.kind fault.place fault.value

-- a refusal is want of memory, or it is a fault of which this holds
abbrev pub OnFault : ReadImage → (ImageFault → Type 0) → Type 0
OnFault Memory P = Unit {0}
OnFault (Fault fault) P = P fault

-- a refusal is want of memory, or it tells this fault
abbrev pub Tells : ImageFault → ReadImage → Type 0
Tells fault refusal = (refusal ≡ Memory) ⊎ (refusal ≡ Fault fault)
