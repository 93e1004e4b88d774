-- What compacting an image gives, in bytes.
use Rattle.std.specs.Prelude.{ℕ, List, Bool}
use Rattle.image_core.specs.Heap.{Heap}
use Rattle.image_core.specs.Live.{MarksLive}
use Rattle.image_reader.specs.Bytes.{IsImage}
use Rattle.image_slide.specs.Slide.{slide}

-- the output is the bytes of the slide of the image that the input is: its live objects alone, in order and without gaps
pub record IsCompacted (input output : List ℕ) : Type 0 where
  pub heap : Heap
  pub image : IsImage input heap
  pub live : List Bool
  pub marks : MarksLive heap live
  pub slid : IsImage output (slide heap live)
