-- What is moved of an image.
use Rattle.std.specs.Prelude.{◌≡◌, ℕ, List, map, Bool}
use Rattle.std.specs.List.{flat_map}
use Rattle.image_core.specs.Heap.{Heap, IsLawful}
use Rattle.image_slide.specs.Slide.{kept, new_place}
use Rattle.image_slide.specs.LiveWords.{AreLiveWords, moved_by, new_name}
use Rattle.image_slide.specs.declared.slide.Moved.{Moved}

-- By the ranks of live words, the words of the marked objects of a lawful heap and its roots are
-- renamed, and the headers stand at their new places.
pub record IsMoved (heap : Heap) (marks : List Bool) (moved : Moved) : Type 0 where
  pub lawful : IsLawful heap
  pub ranks : List Bool
  pub are_live : AreLiveWords heap.format heap.words (kept heap.heads marks) ranks
  pub words : moved.words.items ≡ flat_map (moved_by heap.format heap.words ranks) (kept heap.heads marks)
  pub roots : moved.roots.items ≡ map (new_name ranks) heap.roots
  pub heads : moved.heads.items ≡ map (new_place heap.format heap.words (kept heap.heads marks)) (kept heap.heads marks)
