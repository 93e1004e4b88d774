use Rattle.std.proofs.Common.{◌≡◌, ap, ◌∙◌, arith}
use Rattle.image_reader.specs.Made.{reference}
use Rattle.image_reader.proofs.Drawing.{draw_is, number_is, joined, made_more}
use Rattle.image_reader.proofs.named.push_references.Goals as goal

pub loop-word-preserved : goal.loop-word-preserved
loop-word-preserved c = record {
  number = number_is c.args.source.now.number c.loop-word._word _ _ c.loop-word.invariant.number c.draw.ensures.number;
  words = joined _ _ _ _ _ _ _ c.in_ok-push.ensures.items c.loop-word.invariant.words
      (c.reference.ensures ∙ ap (reference c.args.heads.now) (draw_is c.args.source.now.number c.loop-word._word _ _ c.loop-word.invariant.number c.draw.ensures.drawn))
      (made_more (reference c.args.heads.now) c.args.source.now.number c.loop-word._word);
}

pub returns-clause-words : goal.returns-clause-words
returns-clause-words c =
    let done : c.loop-word._word ≡ c.args.count = omega arith in
    rw (← done) c.loop-word.invariant.words

pub returns-clause-number : goal.returns-clause-number
returns-clause-number c =
    let done : c.loop-word._word ≡ c.args.count = omega arith in
    rw (← done) c.loop-word.invariant.number
