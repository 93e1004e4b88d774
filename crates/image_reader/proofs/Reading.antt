-- What reading bytes answers, by how far it came.
use Rattle.std.proofs.Common.{◌≡◌, ℕ, List, Result, Ok, Err}
use Rattle.std.specs.Prelude.{MatchResult}
use Rattle.std.specs.Result.{IfOk, IfErr}
use Rattle.image_core.specs.Heap.{Heap, IsHeapOf}
use Rattle.image_core.specs.Fault.{HasFault as HasFault-words, OnFault, Tells}
use Rattle.image_core.specs.declared.fault.ImageFault.{ImageFault}
use Rattle.image_core.specs.declared.fault.ReadImage.{ReadImage}
use Rattle.image_core.specs.declared.fault.ReadImage.TheVariants.{Fault, Memory}
use Rattle.image_reader.specs.Bytes.{Spells, IsImage}
use Rattle.image_reader.specs.Fault.{HasFault}
use Rattle.image_reader.specs.Reading.{Reads}
use Rattle.image_reader.proofs.Once.{no_fault, IsHeapOf-spelled, IfErr-spelled, spelled_of_fault}
use Rattle.image_reader.proofs.Stages.{told_once}

-- a fault of the frame is theirs
pub reads_fault : (bytes : List ℕ) (fault : ImageFault) → HasFault bytes fault → Reads bytes (Err (Fault fault))
reads_fault bytes fault fails = record {
  image = tt;
  fault = fails;
  found = λ heap image. absurd (no_fault bytes heap fault image fails);
  told = λ other is. told_once bytes other (Fault fault) is fails;
}

module _ (bytes : List ℕ) (format : ℕ) (words roots : List ℕ) (spells : Spells bytes format words roots) where
  IfOk-spelled : (result : Result Heap ReadImage) → IfOk result (IsHeapOf format words roots) → IfOk result (IsImage bytes)
  IfOk-spelled (Ok heap) is = record { spells = rw (is.format_is, is.words_are, is.roots_are) spells; lawful = is.lawful }
  IfOk-spelled (Err refusal) is = tt

  -- what is told of the words and roots that they spell is told of them
  pub reads_spelled : (result : Result Heap ReadImage) → IfOk result (IsHeapOf format words roots)
      → IfErr result (λ refusal. OnFault refusal (HasFault-words format words roots))
      → ((heap : Heap) → IsHeapOf format words roots heap → MatchResult result (λ image. image ≡ heap) (λ refusal. refusal ≡ Memory))
      → ((fault : ImageFault) → HasFault-words format words roots fault → MatchResult result (λ _. ⊥) (Tells fault))
      → Reads bytes result
  reads_spelled result is fault found told = record {
    image = IfOk-spelled result is;
    fault = IfErr-spelled bytes format words roots result spells fault;
    found = λ heap image. found heap (IsHeapOf-spelled bytes format words roots heap spells image);
    told = λ fault fails. told fault (spelled_of_fault bytes format words roots spells fault.kind fault.place fault.value fails);
  }
