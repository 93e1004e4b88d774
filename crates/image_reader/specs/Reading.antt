-- What reading bytes answers: exactly the bytes of an image give one, and of all others their fault is told, which is their only one.
use Rattle.std.specs.Prelude.{◌≡◌, ℕ, List, IfOk, IfErr, MatchResult}
use Rattle.std.specs.declared.result.Result.{Result}
use Rattle.image_core.specs.Heap.{Heap}
use Rattle.image_core.specs.Fault.{OnFault, Tells}
use Rattle.image_core.specs.declared.fault.ImageFault.{ImageFault}
use Rattle.image_core.specs.declared.fault.ReadImage.{ReadImage}
use Rattle.image_core.specs.declared.fault.ReadImage.TheVariants.{Memory}
use Rattle.image_reader.specs.Bytes.{IsImage}
use Rattle.image_reader.specs.Fault.{HasFault}

-- the image that the bytes are, their fault, or want of memory
pub record Reads (bytes : List ℕ) (result : Result Heap ReadImage) : Type 0 where
  pub image : IfOk result (IsImage bytes)
  pub fault : IfErr result (λ refusal. OnFault refusal (HasFault bytes))
  -- the image that the bytes are is read, unless memory runs out
  pub found : (heap : Heap) → IsImage bytes heap → MatchResult result (λ image. image ≡ heap) (λ refusal. refusal ≡ Memory)
  -- and so is their fault
  pub told : (fault : ImageFault) → HasFault bytes fault → MatchResult result (λ _. ⊥) (Tells fault)
