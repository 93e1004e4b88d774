use Rattle.std.proofs.Common.{◌≡◌, map}
use Rattle.image_reader.specs.Draws.{after, draws}
use Rattle.image_reader.specs.Made.{root}
use Rattle.image_reader.proofs.named.drawn_roots.Given as goal

abbrev pub invariant-loop-root : goal.invariant-loop-root
invariant-loop-root l = record {
  number : l.source.number ≡ after l.fn.source.number l._root;
  roots : l.roots.items ≡ map (root l.heads) (draws l.fn.source.number 0 l._root);
}
