use Rattle.std.proofs.Common.{◌≡◌, ℕ, length}
use Rattle.std.specs.Vec.Iter.{into_iter_items}
use Rattle.room_rule.specs.Use.{IsAt}
use Rattle.mark_words.specs.Shows.{Claimant}
use Rattle.image_mark.specs.Marking.{Marking}
use Rattle.image_mark.specs.Crews.{IsNewSeat, BeginsAt}
use Rattle.image_mark.proofs.crews.markers.Given as goal

-- there is a marker for each seat before, and the others are new
abbrev pub invariant-loop-seat : goal.invariant-loop-seat
invariant-loop-seat l = record {
  many : length l.markers.items ≡ length l.yielded;
  each : (i : ℕ) (m : Marking) → IsAt l.markers.items i m → BeginsAt l.image l.claims i m;
  rest : (i : ℕ) (s : Claimant) → IsAt (into_iter_items l.seat-iterator) i s → IsNewSeat l.claims.site s;
}
