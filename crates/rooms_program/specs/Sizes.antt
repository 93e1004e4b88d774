-- What `check` and `mark` print of an image.
use Rattle.std.specs.Prelude.{◌≡◌, ℕ, List, [], ◌∷◌, ◌++◌, length, codes, decimal, Bool}
use Rattle.room_script.specs.Prints.{text_of}
use Rattle.image_core.specs.Heap.{Heap}
use Rattle.image_core.specs.Live.{MarksLive}
use Rattle.image_mark.specs.Counts.{how_many}
use Rattle.image_slide.specs.Slide.{slide}
use Rattle.image_reader.specs.Bytes.{IsImage}
use Rattle.image_reader.specs.Folding.{fold_of}

-- a number behind its name
abbrev pub named : List ℕ → ℕ → List ℕ
named name number = name ++ codes " " ++ decimal number

-- how large an image is
abbrev pub size_line : Heap → List ℕ
size_line heap =
    codes "ok words " ++ decimal (length heap.words) ++ codes " roots " ++ decimal (length heap.roots)
    ++ codes " objects " ++ decimal (length heap.heads)

-- the output tells how large the image is that the input is
pub record IsChecked (input output : List ℕ) : Type 0 where
  pub heap : Heap
  pub image : IsImage input heap
  pub printed : output ≡ text_of (size_line heap ∷ [])

-- how large an image is, how many of its objects are live, and the words and the fold of its slide
abbrev pub summary : Heap → ℕ → Heap → List (List ℕ)
summary heap live slid =
    named (codes "objects") (length heap.heads) ∷ named (codes "live") live ∷ named (codes "words") (length heap.words)
    ∷ named (codes "kept") (length slid.words) ∷ named (codes "roots") (length heap.roots) ∷ named (codes "fold") (fold_of slid) ∷ []

-- the output is the summary of this image, with its live objects and its slide
pub record IsSummary (heap : Heap) (output : List ℕ) : Type 0 where
  pub live : List Bool
  pub marks : MarksLive heap live
  pub printed : output ≡ text_of (summary heap (how_many live) (slide heap live))

-- the output is the summary of the image that the input is
pub record IsMarked (input output : List ℕ) : Type 0 where
  pub heap : Heap
  pub image : IsImage input heap
  pub summed : IsSummary heap output
