use Rattle.std.proofs.lemmas.Result.{err_from_is_err_and}
use Rattle.image_reader.proofs.Reading.{reads_fault, reads_spelled}
use Rattle.image_reader.proofs.read.read_image.Goals as goal

pub returns-in_err-frame : goal.returns-in_err-frame
returns-in_err-frame c =
    let refused = err_from_is_err_and c.from_residual.result c.from_residual.ensures.1 in
    rw (refused.1, refused.2) (reads_fault _ c.in_err-frame.field-0.0 c.in_err-frame.ensures.fault)

pub returns : goal.returns
returns c =
    let told = c.lawful.ensures in
    reads_spelled _ _ _ _ c.in_ok-words.ensures c.lawful.result told.heap told.fault told.found told.told
