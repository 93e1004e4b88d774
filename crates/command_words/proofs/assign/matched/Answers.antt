use Rattle.std.proofs.Common.{◌≡◌, refl, true, map, string_bytes, subst}
use Rattle.clap.specs.Words.{App, fault_of, FailsBy, is_simple_and_free}
use Rattle.command_words.specs.Clap.{words_app}
use Rattle.command_words.proofs.assign.matched.Goals as goal

words_simple : is_simple_and_free words_app ≡ true
words_simple = refl

pub returns-clause-faults : goal.returns-clause-faults
returns-clause-faults c =
    let P = λ (a : App). is_simple_and_free a ≡ true → FailsBy (fault_of a (map string_bytes c.args.words.now)) c.try_get_matches_from.result in
    subst P c.in_ok-command.ensures c.try_get_matches_from.ensures.kinds words_simple
