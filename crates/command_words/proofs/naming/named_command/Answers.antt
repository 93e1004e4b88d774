use Rattle.std.proofs.Common.{map, string_bytes}
use Rattle.command_words.proofs.Said.{named_told, only_told, said_assignable}
use Rattle.command_words.proofs.naming.named_command.Goals as goal

pub returns-in-Some-clause-names : goal.returns-in-Some-clause-names
returns-in-Some-clause-names c =
    named_told (map string_bytes c.args.words.now) c.said.result
    (λ parts are. c.said.ensures parts (rw c.in-Some.is at (c.in_ok-texts.ensures parts are)))
    (c.have_parts.ensures.0 c.if-not-have_parts.false)

pub returns-in-Some-clause-only : goal.returns-in-Some-clause-only
returns-in-Some-clause-only c = λ command named.
    only_told (map string_bytes c.args.words.now) c.said.result
    (λ parts are. c.said.ensures parts (rw c.in-Some.is at (c.in_ok-texts.ensures parts are))) command named

pub returns-in-None-clause-names : goal.returns-in-None-clause-names
returns-in-None-clause-names c = λ other named.
    (rw c.in-None.is at (c.in_ok-texts.ensures named.0 named.1)) (said_assignable named.0 other named.2)

pub returns-in-None-clause-only : goal.returns-in-None-clause-only
returns-in-None-clause-only c = λ command named.
    absurd ((rw c.in-None.is at (c.in_ok-texts.ensures named.0 named.1)) (said_assignable named.0 command named.2))
