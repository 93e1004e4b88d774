use Rattle.std.proofs.Common.{◌≡◌, ◌≤◌, false, length, map, take, vec_capacity, get_or}
use Rattle.image_mark.proofs.mark.marks_at.Given as goal

abbrev pub invariant-loop-place : goal.invariant-loop-place
invariant-loop-place l = record {
  found : l.found.items ≡ map (λ place. get_or l.marks place false) (take l.place-index l.places);
  room : length l.places ≤ vec_capacity l.found;
}
