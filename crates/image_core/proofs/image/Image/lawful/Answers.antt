use Rattle.std.proofs.Common.{refl}
use Rattle.std.proofs.lemmas.Result.{err_from_is_err_and}
use Rattle.image_core.proofs.Once.{no_fault, same_heap, told_once, refused_for_memory}
use Rattle.image_core.proofs.image.Image.lawful.Goals as goal

pub returns-clause-found : goal.returns-clause-found
returns-clause-found c = λ heap is.
    same_heap _ _ _ _ heap (record {
      format_is = refl;
      words_are = refl;
      roots_are = refl;
      lawful = rw (c.as_slice.ensures.value, c.as_slice-2.ensures.value) at c.in_ok-index.ensures.lawful;
    }) is

pub returns-clause-told : goal.returns-clause-told
returns-clause-told c = λ fault fails.
    no_fault _ _ _ _ fault (record {
      format_is = refl;
      words_are = refl;
      roots_are = refl;
      lawful = rw (c.as_slice.ensures.value, c.as_slice-2.ensures.value) at c.in_ok-index.ensures.lawful;
    }) fails

pub returns-in_err-index-clause-found : goal.returns-in_err-index-clause-found
returns-in_err-index-clause-found c = λ heap is.
    let refused = err_from_is_err_and c.from_residual.result c.from_residual.ensures.1 in
    rw (refused.1, refused.2) (refused_for_memory _ _ _ heap c.in_err-index.field-0.0 is
    (rw (c.as_slice.ensures.value, c.as_slice-2.ensures.value) at c.in_err-index.ensures.fault))

pub returns-in_err-index-clause-told : goal.returns-in_err-index-clause-told
returns-in_err-index-clause-told c = λ fault fails.
    let refused = err_from_is_err_and c.from_residual.result c.from_residual.ensures.1 in
    rw (refused.1, refused.2) (told_once _ _ _ fault c.in_err-index.field-0.0 fails
    (rw (c.as_slice.ensures.value, c.as_slice-2.ensures.value) at c.in_err-index.ensures.fault))
