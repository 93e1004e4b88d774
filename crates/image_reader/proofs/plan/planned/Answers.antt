use Rattle.std.proofs.Common.{◌≡◌, [], ap, arith}
use Rattle.image_reader.specs.Draws.{draw}
use Rattle.image_reader.specs.Made.{body}
use Rattle.image_reader.proofs.Drawing.{draw_is, number_is, joined, draws_more, place_more, places_more, bodies_small}
use Rattle.image_reader.proofs.plan.planned.Goals as goal

pub overflow_add-size-in-loop-object : goal.overflow_add-size-in-loop-object
overflow_add-size-in-loop-object c =
    omega (arith, bodies_small c.args.source.now.number c.loop-object._object, c.loop-object.invariant.size, c.body.ensures.small)

pub loop-object-preserved : goal.loop-object-preserved
loop-object-preserved c =
    let drawn : c.draw-shape.result ≡ draw c.args.source.now.number c.loop-object._object =
    draw_is c.args.source.now.number c.loop-object._object _ _ c.loop-object.invariant.number c.draw-shape.ensures.drawn in
    record {
      number = number_is c.args.source.now.number c.loop-object._object _ _ c.loop-object.invariant.number c.draw-shape.ensures.number;
      shapes = joined [] _ _ _ _ _ _ c.in_ok-push.ensures.items c.loop-object.invariant.shapes drawn
          (draws_more c.args.source.now.number 0 c.loop-object._object c.loop-object._object (omega arith));
      heads = joined [] _ _ _ _ _ _ c.in_ok-push-2.ensures.items c.loop-object.invariant.heads c.loop-object.invariant.size
          (places_more c.args.source.now.number c.loop-object._object);
      size = omega (arith, c.loop-object.invariant.size, c.body.ensures.value, place_more c.args.source.now.number c.loop-object._object, ap body drawn);
    }
