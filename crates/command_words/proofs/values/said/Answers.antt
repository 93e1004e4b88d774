use Rattle.std.proofs.Common.{rules}
use Rattle.command_words.proofs.Said.{answer_options, answer_bare, takes_options, takes_none}
use Rattle.command_words.proofs.values.said.Goals as goal

pub returns-in_ok-options : goal.returns-in_ok-options
returns-in_ok-options c = λ parts assigns.
    answer_options parts c.args.texts.now assigns c.in_ok-name.name (search rules) c.in_ok-made.made c.in_ok-made.ensures
    c.in_ok-options.field-0 (c.in_ok-options.ensures parts assigns)
    (λ command named none give. takes_options c.in_ok-name.name.now command c.if-takes_options.ensures.yes named none)
    c.optional.result c.optional.ensures

pub returns-else-has_options : goal.returns-else-has_options
returns-else-has_options c = λ parts assigns.
    answer_bare parts c.args.texts.now assigns c.in_ok-name.name (search rules) c.in_ok-made.made c.in_ok-made.ensures
    (c.if-has_options.ensures.none parts assigns)
    (λ command options named some_.
    takes_none c.in_ok-name.name.now command options c.if-takes_options.ensures.no_.0 c.if-takes_options.ensures.no_.1 named some_)
    c.bare.result c.bare.ensures
