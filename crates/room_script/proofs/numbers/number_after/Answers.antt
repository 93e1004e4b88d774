use Rattle.std.proofs.Common.{Some, None}
use Rattle.std.proofs.lemmas.Slice.Eq.{strip_prefix_is}
use Rattle.std.proofs.lemmas.Bool.Decides.{Decides-eqb}
use Rattle.room_script.proofs.Spelled.{after_word}
use Rattle.room_script.proofs.numbers.number_after.Goals as goal

pub returns-in-Some : goal.returns-in-Some
returns-in-Some c = λ n.
    let rest = strip_prefix_is Decides-eqb c.args.bytes.now c.args.word.now (Some c.in-Some.digits) c.in-Some.ensures.cases in
    let both = after_word c.args.word.now c.args.bytes.now c.in-Some.digits.now n rest in
    (λ e. both.0 ((c.number.ensures n).0 e), λ is. (c.number.ensures n).1 (both.1 is))

pub returns-in-None : goal.returns-in-None
returns-in-None c = λ n.
    let never = strip_prefix_is Decides-eqb c.args.bytes.now c.args.word.now None c.in-None.ensures.cases in
    (λ e. cc, λ is. absurd (never _ is.digits))
