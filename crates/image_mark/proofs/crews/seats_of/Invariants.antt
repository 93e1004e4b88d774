use Rattle.std.proofs.Common.{◌≡◌, ◌++◌, ℕ, map}
use Rattle.std.specs.Vec.Iter.{into_iter_items}
use Rattle.room_rule.specs.Use.{IsAt}
use Rattle.image_mark.specs.Marking.{Marking, Holds}
use Rattle.image_mark.proofs.crews.seats_of.Given as goal

abbrev pub invariant-loop-marker : goal.invariant-loop-marker
invariant-loop-marker l = record {
  seats : l.seats.items ≡ map (λ marker. marker.seat) l.yielded;
  holds : (i : ℕ) (m : Marking) → IsAt l.yielded i m → Holds m;
  rest : l.yielded ++ into_iter_items l.marker-iterator ≡ l.fn.markers.items;
}
