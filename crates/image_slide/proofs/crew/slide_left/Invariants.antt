use Rattle.std.proofs.Common.{◌≡◌, ◌++◌, map, take}
use Rattle.std.specs.List.{All, flat_map}
use Rattle.image_slide.specs.Jobs.{pieces_in}
use Rattle.image_slide.specs.Parts.{IsSlid}
use Rattle.image_slide.proofs.crew.slide_left.Given as goal

abbrev pub invariant-loop-job : goal.invariant-loop-job
invariant-loop-job l = record {
  numbers : map (λ part. part.piece) l.parts.items
      ≡ map (λ part. part.piece) l.initial.parts.items ++ flat_map pieces_in (take l.job-index l.left);
  slid : All (IsSlid l.image l.marks l.ranks) l.parts.items;
}
