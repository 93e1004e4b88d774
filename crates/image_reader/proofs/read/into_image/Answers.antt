use Rattle.std.proofs.Common.{subst}
use Rattle.std.proofs.lemmas.Result.{err_from_is_err_and}
use Rattle.image_reader.specs.Fault.{HasFault}
use Rattle.image_reader.specs.Reading.{Reads}
use Rattle.image_reader.proofs.Reading.{reads_fault, reads_spelled}
use Rattle.image_reader.proofs.read.into_image.Goals as goal

pub returns-in_err-frame : goal.returns-in_err-frame
returns-in_err-frame c =
    let refused = err_from_is_err_and c.from_residual.result c.from_residual.ensures.1 in
    rw (refused.1, refused.2)
    (reads_fault _ c.in_err-frame.field-0.0 (subst (λ bytes. HasFault bytes c.in_err-frame.field-0.0) c.deref.ensures.value c.in_err-frame.ensures.fault))

pub returns : goal.returns
returns c =
    let told = c.lawful.ensures in
    subst (λ bytes. Reads bytes c.lawful.result) c.deref-2.ensures.value
    (reads_spelled _ _ _ _ c.in_ok-words.ensures c.lawful.result told.heap told.fault told.found told.told)
