use Rattle.std.proofs.Common.{◌≡◌}
use Rattle.image_reader.specs.Draws.{after, draws}
use Rattle.image_reader.specs.Made.{place, places}
use Rattle.image_reader.proofs.plan.planned.Given as goal

abbrev pub invariant-loop-object : goal.invariant-loop-object
invariant-loop-object l = record {
  number : l.source.number ≡ after l.fn.source.number l._object;
  shapes : l.shapes.items ≡ draws l.fn.source.number 0 l._object;
  heads : l.heads.items ≡ places l.fn.source.number l._object;
  size : l.size ≡ place l.fn.source.number l._object;
}
