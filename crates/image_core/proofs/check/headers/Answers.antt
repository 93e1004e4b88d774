use Rattle.std.proofs.Common.{◌<◌, arith, length}
use Rattle.std.proofs.lemmas.List.{get_or_default}
use Rattle.image_core.proofs.Standing.{Fill-fits}
use Rattle.image_core.proofs.check.headers.Goals as goal

pub of_word-requires : goal.of_word-requires
of_word-requires c =
    let heads = c.in_ok-found.found.heads.items in
    let within : 1048576 < length heads = omega (arith, c.if-len-gt-MOST_OBJECTS.true, c.len.ensures) in
    omega (
      arith,
      Fill-fits c.args.format c.args.words.now heads c.in_ok-found.ensures.fill 1048576 within,
      get_or_default heads 1048576 c.index.result.now 0 within,
      c.index.ensures,
    )
