use Rattle.std.proofs.Common.{◌≡◌, ◌++◌, ◌+◌, ◌≤◌, vec_len, vec_capacity}
use Rattle.std.specs.List.{flat_map, sum_by, All}
use Rattle.std.specs.Iterator.Adapters.{zip_first, zip_second}
use Rattle.std.specs.Slice.Iter.{iter_rest}
use Rattle.image_core.specs.Object.{Fits, size_at, naming_at}
use Rattle.image_slide.specs.Slide.{kept}
use Rattle.image_slide.specs.LiveWords.{AreNames, moved_by}
use Rattle.image_slide.proofs.moves.moved_words.Given as goal

-- what is still to be moved
abbrev pub invariant-loop-head : goal.invariant-loop-head
invariant-loop-head l =
    let heads = iter_rest (zip_first l.head-iterator) in
    let rest = kept heads (iter_rest (zip_second l.head-iterator)) in
    record {
      items : l.out.items ++ flat_map (moved_by l.format l.words l.ranks) rest ≡ flat_map (moved_by l.format l.words l.ranks) (kept l.heads l.marks);
      room : vec_len l.out + sum_by (size_at l.format l.words) rest ≤ vec_capacity l.out;
      fit : All (Fits l.format l.words) heads;
      names : All (λ head. AreNames l.ranks (naming_at l.format l.words head)) heads;
    }
