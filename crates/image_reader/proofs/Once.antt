-- Bytes are of at most one image, or have a fault, but not both.
use Rattle.std.proofs.Common.{◌≡◌, ℕ, inl, inr, List, refl, subst, arith, Result, Ok, Err}
use Rattle.image_core.specs.Heap.{Heap, IsHeapOf}
use Rattle.image_core.specs.Fault.{HasFault as HasFault-words, OnFault}
use Rattle.image_core.specs.declared.fault.ImageFault.{ImageFault}
use Rattle.image_core.specs.declared.fault.ImageKind.{ImageKind}
use Rattle.image_core.specs.declared.fault.ImageKind.TheVariants.{Short, Magic, TooManyWords, TooManyRoots, Long, Overrun, TooManyObjects, BadRef, BadRoot}
use Rattle.image_core.specs.declared.fault.ReadImage.{ReadImage}
use Rattle.image_core.specs.declared.fault.ReadImage.TheVariants.{Fault, Memory}
use Rattle.std.specs.Result.{IfErr}
use Rattle.image_core.specs.Fault.{WordsFail}
use Rattle.image_core.proofs.Once.{lawful_no_fault, same_heap}
use Rattle.image_reader.specs.Bytes.{Spells, IsImage}
use Rattle.image_reader.specs.Fault.{SpelledFail, BytesFail, HasFault}
use Rattle.image_reader.proofs.Spelling.{Spells-once}
use Rattle.image_reader.proofs.Header.{Spells-header, HasMagic-byte}

-- the image of bytes that spell words and roots is theirs
pub IsHeapOf-spelled : (bytes : List ℕ) (format : ℕ) (words roots : List ℕ) (heap : Heap) → Spells bytes format words roots → IsImage bytes heap → IsHeapOf format words roots heap
IsHeapOf-spelled bytes format words roots heap spells image =
    let same = Spells-once bytes heap.format heap.words heap.roots format words roots image.spells spells in
    record { format_is = same.0; words_are = same.1; roots_are = same.2; lawful = image.lawful }

-- bytes are of at most one image
pub IsImage-once : (bytes : List ℕ) (a b : Heap) → IsImage bytes a → IsImage bytes b → a ≡ b
IsImage-once bytes a b this that =
    same_heap b.format b.words b.roots a b (IsHeapOf-spelled bytes b.format b.words b.roots a that.spells this)
    (record { format_is = refl; words_are = refl; roots_are = refl; lawful = that.lawful })

-- words and roots that bytes spell give the bytes their fault
module _ (bytes : List ℕ) (format : ℕ) (words roots : List ℕ) (spells : Spells bytes format words roots) where
  pub fault_of_spelled : (kind : ImageKind) (place value : ℕ) → WordsFail format words roots kind place value → BytesFail bytes kind place value
  fault_of_spelled Overrun place value fails = (format, words, roots, spells, fails)
  fault_of_spelled TooManyObjects place value fails = (format, words, roots, spells, fails)
  fault_of_spelled BadRef place value fails = (format, words, roots, spells, fails)
  fault_of_spelled BadRoot place value fails = (format, words, roots, spells, fails)
  fault_of_spelled Short place value fails = absurd fails
  fault_of_spelled Magic place value fails = absurd fails
  fault_of_spelled TooManyWords place value fails = absurd fails
  fault_of_spelled TooManyRoots place value fails = absurd fails
  fault_of_spelled Long place value fails = absurd fails

  pub same_spelled : (kind : ImageKind) (place value : ℕ) → SpelledFail bytes kind place value → WordsFail format words roots kind place value
  same_spelled kind place value (f, ws, rs, spells_, fails) =
      let same = Spells-once bytes f ws rs format words roots spells_ spells in
      subst (λ n. WordsFail n words roots kind place value) same.0
      (subst (λ zs. WordsFail f zs roots kind place value) same.1 (subst (λ zs. WordsFail f ws zs kind place value) same.2 fails))

  -- and they have no other fault
  pub spelled_of_fault : (kind : ImageKind) (place value : ℕ) → BytesFail bytes kind place value → WordsFail format words roots kind place value
  spelled_of_fault Overrun place value fails = same_spelled Overrun place value fails
  spelled_of_fault TooManyObjects place value fails = same_spelled TooManyObjects place value fails
  spelled_of_fault BadRef place value fails = same_spelled BadRef place value fails
  spelled_of_fault BadRoot place value fails = same_spelled BadRoot place value fails
  spelled_of_fault Short place value (at, inl fails) = absurd (omega (arith, (Spells-header bytes format words roots spells).0.begins.long_enough, fails))
  spelled_of_fault Short place value (at, inr fails) = absurd (omega (arith, fails.1, (Spells-header bytes format words roots spells).1))
  spelled_of_fault Magic place value (long_enough, other, is) =
      absurd (other.differs (HasMagic-byte bytes place (Spells-header bytes format words roots spells).0.begins other.within))
  spelled_of_fault TooManyWords place value fails = absurd (omega (arith, (Spells-header bytes format words roots spells).0.few_words, fails.1))
  spelled_of_fault TooManyRoots place value fails = absurd (omega (arith, (Spells-header bytes format words roots spells).0.few_roots, fails.2))
  spelled_of_fault Long place value fails = absurd (omega (arith, fails.1, (Spells-header bytes format words roots spells).1))

-- the bytes of an image have no fault
pub no_fault : (bytes : List ℕ) (heap : Heap) (fault : ImageFault) → IsImage bytes heap → HasFault bytes fault → ⊥
no_fault bytes heap fault image fails =
    lawful_no_fault heap fault.kind fault.place fault.value image.lawful
    (spelled_of_fault bytes heap.format heap.words heap.roots image.spells fault.kind fault.place fault.value fails)

-- a refusal of words and roots that bytes spell is one of the bytes
OnFault-spelled : (bytes : List ℕ) (format : ℕ) (words roots : List ℕ) (refusal : ReadImage) → Spells bytes format words roots → OnFault refusal (HasFault-words format words roots)
    → OnFault refusal (HasFault bytes)
OnFault-spelled bytes format words roots Memory spells fault = tt
OnFault-spelled bytes format words roots (Fault f) spells fails = fault_of_spelled bytes format words roots spells f.kind f.place f.value fails

pub IfErr-spelled : {T : Type 0} (bytes : List ℕ) (format : ℕ) (words roots : List ℕ) (result : Result T ReadImage) → Spells bytes format words roots
    → IfErr result (λ refusal. OnFault refusal (HasFault-words format words roots)) → IfErr result (λ refusal. OnFault refusal (HasFault bytes))
IfErr-spelled bytes format words roots (Ok x) spells fault = fault
IfErr-spelled bytes format words roots (Err refusal) spells fault = OnFault-spelled bytes format words roots refusal spells fault
