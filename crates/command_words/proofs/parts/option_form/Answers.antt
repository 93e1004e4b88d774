use Rattle.std.proofs.Common.{Some, None, ◌≡◌, ◌++◌}
use Rattle.std.proofs.lemmas.Slice.Eq.{strip_prefix_is}
use Rattle.std.proofs.lemmas.Bool.Decides.{Decides-eqb}
use Rattle.command_words.specs.Forms.{IsRestForm, IsOptionForm}
use Rattle.command_words.proofs.Forms.{IfSome-weaker}
use Rattle.command_words.proofs.parts.option_form.Goals as goal

pub returns-in-Some-clause-some : goal.returns-in-Some-clause-some
returns-in-Some-clause-some c =
    let whole = strip_prefix_is Decides-eqb c.as_bytes.result.now c.as_bytes-2.result.now (Some c.in-Some.rest) c.in-Some.ensures.cases in
    let here : c.args.word.now ≡ c.args.option.now ++ c.in-Some.rest.now = rw (c.as_bytes.ensures.value, c.as_bytes-2.ensures.value) at whole in
    IfSome-weaker c.rest_form.result (IsRestForm c.in-Some.rest.now) (IsOptionForm c.args.word.now c.args.option.now)
    (λ form is. (c.in-Some.rest.now, here, is)) c.rest_form.ensures.some

pub returns-in-None-clause-none : goal.returns-in-None-clause-none
returns-in-None-clause-none c = λ form is.
    let never = strip_prefix_is Decides-eqb c.as_bytes.result.now c.as_bytes-2.result.now None c.in-None.ensures.cases in
    never is.0 (rw (c.as_bytes.ensures.value, c.as_bytes-2.ensures.value) is.1)
