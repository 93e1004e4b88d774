-- What contracts see of a slider: one worker's work on an image.
use Rattle.std.specs.Prelude.{◌≡◌, ℕ, ◌+◌, ◌==◌, if◌then◌else◌, List, [], ◌∷◌, ◌++◌, length, Bool, false}
use Rattle.std.specs.List.{flat_map, range_with_len}
use Rattle.room_rule.specs.Use.{IsAt}
use Rattle.work_pool.specs.Standing.{Standing}
use Rattle.bay_core.specs.Times.{times}
use Rattle.work_crew.specs.Crews.{IsNew}
use Rattle.image_core.specs.Heap.{Heap}
use Rattle.image_slide.specs.Pieces.{pieces_of}
use Rattle.image_slide.specs.Jobs.{job_of, pieces_in}
use Rattle.image_slide.specs.declared.starts.Start.{Start}

-- the image, its marks and its live words, whether it began with the job of all pieces, the
-- pieces that it slid, and the standing of the work
pub record Sliding : Type 0 where
  pub heap : Heap
  pub marks : List Bool
  pub ranks : List Bool
  pub whole : Bool
  pub slid : List ℕ
  pub stands : Standing

-- the jobs with which a slider begins
abbrev pub jobs_first : Heap → Bool → List ℕ
jobs_first heap whole = if whole then job_of 0 (pieces_of (length heap.heads)) ∷ [] else []

-- and their pieces
abbrev pub pieces_first : Heap → Bool → List ℕ
pieces_first heap whole = if whole then range_with_len 0 (pieces_of (length heap.heads)) else []

-- what it was made with
abbrev pub start_of : Sliding → Start
start_of m = record { image = m.heap; marks = m.marks; ranks = m.ranks; whole = m.whole }

-- it is a work on this image, with these marks and live words
abbrev pub IsOf : Heap → List Bool → List Bool → Sliding → Type 0
IsOf heap marks ranks m = (m.heap ≡ heap) × (m.marks ≡ marks) × (m.ranks ≡ ranks)

-- and so are all of these
abbrev pub AreOf : Heap → List Bool → List Bool → List Sliding → Type 0
AreOf heap marks ranks works = (i : ℕ) (m : Sliding) → IsAt works i m → IsOf heap marks ranks m

-- What a slider slid, and the pieces of the jobs that it gave and has to give, are those with which it
-- began and those of the jobs that it did, each as often.
pub record Accounts (m : Sliding) : Type 0 where
  pub pieces : (p : ℕ)
      → times p m.slid + times p (flat_map pieces_in (m.stands.given ++ m.stands.to_give))
      ≡ times p (pieces_first m.heap m.whole) + times p (flat_map pieces_in m.stands.done)

-- a new slider
pub record Begins (heap : Heap) (marks : List Bool) (ranks : List Bool) (whole : Bool) (m : Sliding) : Type 0 where
  pub start : start_of m ≡ record { image = heap; marks = marks; ranks = ranks; whole = whole }
  pub new : IsNew m.stands
  pub none : whole ≡ false → m.stands.to_give ≡ []

-- so many new sliders, of which the first begins with the job of all pieces
pub record AreSliders (heap : Heap) (marks : List Bool) (ranks : List Bool) (many : ℕ)
    (works : List Sliding) : Type 0 where
  pub long : length works ≡ many
  pub each : (i : ℕ) (m : Sliding) → IsAt works i m → Begins heap marks ranks (i == 0) m
