use Rattle.command_words.proofs.Forms.{no_option}
use Rattle.command_words.proofs.parts.form_of.Goals as goal

pub returns : goal.returns
returns c = (
  (λ plain.
      let yes = c.is_plain.ensures.1 (rw c.as_bytes.ensures.value plain) in
      let no_ = c.if-is_plain.false in
      cc),
  no_option c.args.word.now (λ form. c.in_default.ensures.none form) (λ form. c.in_default-option_form.ensures.none form)
      (λ form. c.in_default-option_form-2.ensures.none form),
)
