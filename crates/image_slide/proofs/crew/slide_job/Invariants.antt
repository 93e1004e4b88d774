use Rattle.std.proofs.Common.{◌≡◌, ◌++◌, ◌-◌, ◌≤◌, map}
use Rattle.std.specs.List.{All, range_with_len}
use Rattle.image_slide.specs.Jobs.{first_of, end_of}
use Rattle.image_slide.specs.Parts.{IsSlid}
use Rattle.image_slide.proofs.crew.slide_job.Given as goal

abbrev pub invariant-loop-piece : goal.invariant-loop-piece
invariant-loop-piece l = record {
  numbers : map (λ part. part.piece) l.parts.items
      ≡ map (λ part. part.piece) l.initial.parts.items ++ range_with_len (first_of l.job) (l.piece - first_of l.job);
  few : l.piece - first_of l.job ≤ end_of l.job - first_of l.job;
  slid : All (IsSlid l.image l.marks l.ranks) l.parts.items;
}
