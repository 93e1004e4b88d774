use Rattle.std.proofs.Common.{rules}
use Rattle.rooms_program.proofs.Inputs.{image_unrefused}
use Rattle.rooms_program.proofs.check.checked.Goals as goal

pub returns : goal.returns
returns c = record {
  output = search rules;
  why = tt;
  accepts = λ _. tt;
  refuses = λ why refused.
      absurd (image_unrefused c.args.bytes.now c.in_ok-image.image why c.in_ok-image.ensures.image refused);
}
