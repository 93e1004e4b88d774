use Rattle.std.proofs.Common.{◌≡◌, ◌+◌, ◌≤◌, length, drop, vec_len, vec_capacity}
use Rattle.std.specs.Iterator.Adapters.{zip_first, zip_second}
use Rattle.std.specs.Slice.Iter.{iter_rest}
use Rattle.image_slide.specs.Slide.{kept}
use Rattle.image_slide.proofs.Placing.{Placing}
use Rattle.image_slide.proofs.places.new_places.Given as goal

-- the first of the marked objects have their places, and the rest are to come
abbrev pub invariant-loop-head : goal.invariant-loop-head
invariant-loop-head l =
    let heads = iter_rest (zip_first l.head-iterator) in
    record {
      rest : drop (vec_len l.places) (kept l.heads l.marks) ≡ kept heads (iter_rest (zip_second l.head-iterator));
      room : vec_len l.places + length heads ≤ vec_capacity l.places;
      placing : Placing l.format l.words (kept l.heads l.marks) (vec_len l.places) l.next l.live l.places.items;
    }
