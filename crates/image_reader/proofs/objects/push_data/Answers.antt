use Rattle.std.proofs.Common.{◌∙◌, arith}
use Rattle.image_reader.proofs.Drawing.{draw_is, number_is, joined, draws_more}
use Rattle.image_reader.proofs.objects.push_data.Goals as goal

pub loop-word-preserved : goal.loop-word-preserved
loop-word-preserved c = record {
  number = number_is c.args.source.now.number c.loop-word._word _ _ c.loop-word.invariant.number c.draw.ensures.number;
  words = joined _ _ _ _ _ _ _ c.in_ok-push.ensures.items c.loop-word.invariant.words
      (c.from.ensures ∙ draw_is c.args.source.now.number c.loop-word._word _ _ c.loop-word.invariant.number c.draw.ensures.drawn)
      (draws_more c.args.source.now.number 0 c.loop-word._word c.loop-word._word (omega arith));
}
