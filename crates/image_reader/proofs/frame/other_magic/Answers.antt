use Rattle.image_reader.proofs.Header.{IsOtherMagic-name}
use Rattle.image_reader.proofs.frame.other_magic.Goals as goal

pub returns-then-bytes-place-clause-other : goal.returns-then-bytes-place-clause-other
returns-then-bytes-place-clause-other c =
    IsOtherMagic-name c.args.bytes.now c.loop-place.place c.loop-place-test.true c.loop-place.invariant c.if-bytes-place.true
