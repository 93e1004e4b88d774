use Rattle.std.proofs.Common.{◌≡◌, [], ap, ◌∙◌, arith, min, length}
use Rattle.image_reader.specs.Made.{root}
use Rattle.image_reader.proofs.Drawing.{draw_is, number_is, joined, made_more}
use Rattle.image_reader.proofs.named.drawn_roots.Goals as goal

pub loop-root-preserved : goal.loop-root-preserved
loop-root-preserved c = record {
  number = number_is c.args.source.now.number c.loop-root._root _ _ c.loop-root.invariant.number c.draw.ensures.number;
  roots = joined [] _ _ _ _ _ _ c.in_ok-push.ensures.items c.loop-root.invariant.roots
      (c.root.ensures ∙ ap (root c.args.heads.now) (draw_is c.args.source.now.number c.loop-root._root _ _ c.loop-root.invariant.number c.draw.ensures.drawn))
      (made_more (root c.args.heads.now) c.args.source.now.number c.loop-root._root);
}

pub returns : goal.returns
returns c =
    let done : c.loop-root._root ≡ min (length c.args.heads.now) 16 = omega (arith, c.min-count.ensures) in
    rw (← done) c.loop-root.invariant.roots
