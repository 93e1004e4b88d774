-- A slider by its fields.
use Rattle.std.specs.Prelude.{◌≡◌, ℕ, ◌+◌, ◌≤◌, map, length, take, drop, All}
use Rattle.std.specs.List.{flat_map}
use Rattle.bay_core.specs.Times.{times}
use Rattle.image_slide.specs.Jobs.{pieces_in}
use Rattle.image_slide.specs.Parts.{IsSlid}
use Rattle.image_slide.specs.Sliding.{Sliding, pieces_first}
use Rattle.image_slide.specs.declared.sliders.Slider.TheInside.{Inside}

-- what a slider shows
abbrev pub sliding_of : Inside → Sliding
sliding_of s = record {
  heap = s.image.now;
  marks = s.marks.now;
  ranks = s.ranks.now;
  whole = s.whole;
  slid = map (λ part. part.piece) s.parts.items;
  stands = record {
    given = take s.at s.came.items;
    to_give = drop s.at s.came.items;
    kept_items = s.kept.items;
    spare = s.kept.spare;
    done = s.done.items;
  };
}

-- what holds of each slider
pub record IsSlider (s : Inside) : Type 0 where
  pub at : s.at ≤ length s.came.items
  pub ranks : length s.ranks.now ≡ length s.image.now.words
  pub slid : All (IsSlid s.image.now s.marks.now s.ranks.now) s.parts.items
  pub account : (p : ℕ)
      → times p (map (λ part. part.piece) s.parts.items) + times p (flat_map pieces_in s.came.items)
      ≡ times p (pieces_first s.image.now s.whole) + times p (flat_map pieces_in s.done.items)
