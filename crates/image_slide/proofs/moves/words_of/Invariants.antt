use Rattle.std.proofs.Common.{◌≡◌, ◌+◌, ◌*◌, ◌^◌, ◌≤◌, length}
use Rattle.std.specs.List.{sum_by, All}
use Rattle.std.specs.Iterator.Adapters.{zip_first, zip_second}
use Rattle.std.specs.Slice.Iter.{iter_rest}
use Rattle.image_core.specs.Object.{Fits, size_at}
use Rattle.image_slide.specs.Slide.{kept}
use Rattle.image_slide.proofs.moves.words_of.Given as goal

-- what is still to be counted
abbrev pub invariant-loop-head : goal.invariant-loop-head
invariant-loop-head l =
    let heads = iter_rest (zip_first l.head-iterator) in
    let rest = kept heads (iter_rest (zip_second l.head-iterator)) in
    record {
      sum : l.count + sum_by (size_at l.format l.words) rest ≡ sum_by (size_at l.format l.words) (kept l.heads l.marks);
      few : l.count + 2 ^ 18 * length heads ≤ 2 ^ 18 * length l.heads;
      fit : All (Fits l.format l.words) heads;
    }
