use Rattle.std.proofs.Common.{rules}
use Rattle.rooms_program.proofs.Inputs.{image_unrefused}
use Rattle.rooms_program.proofs.compact.compacted.Goals as goal

pub returns : goal.returns
returns g c = record {
  output = search rules;
  why = tt;
  accepts = λ _. tt;
  refuses = λ why refused.
      absurd (image_unrefused c.args.bytes.items c.in_ok-image.image why c.in_ok-image.ensures.image refused);
}
