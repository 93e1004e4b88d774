-- How many bytes an image has at most.
use Rattle.std.proofs.Common.{ℕ, ◌<◌, List, length, ap, arith}
use Rattle.image_core.specs.Heap.{Heap}
use Rattle.image_reader.specs.Bytes.{IsImage}
use Rattle.image_reader.proofs.Spelling.{length-spelling}
use Rattle.image_slide.specs.Compact.{IsCompacted}

image_short : (bytes : List ℕ) (heap : Heap) → IsImage bytes heap → length bytes < 34078745
image_short bytes heap image =
    let spells = image.spells in
    omega (arith, ap length spells.spelled_so, length-spelling heap.format heap.words heap.roots, spells.few_words, spells.few_roots)

-- what is compacted has no more bytes than an image may have
pub compacted_short : (input output : List ℕ) → IsCompacted input output → length input < 34078745
compacted_short input output c = image_short input c.heap c.image
