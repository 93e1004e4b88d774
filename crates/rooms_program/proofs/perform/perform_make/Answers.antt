use Rattle.std.proofs.Common.{[], None}
use Rattle.command_words.specs.declared.command.Command.TheVariants.{Make}
use Rattle.rooms_program.proofs.Performing.{performed, made_why}
use Rattle.rooms_program.proofs.perform.perform_make.Goals as goal

pub returns : goal.returns
returns g c =
    let made = c.made_bytes-made.ensures in
    let put = c.write_made.ensures in
    performed {S = Unit {0}} (λ _. None) (λ _. 0) g.K.Sink.written g.K.Sink.faults tt tt _ _ _ (Make c.args.wanted) [] c.made_bytes-made.result
    (λ none. absurd none) (λ none. absurd none) (λ _. cc)
    (record { output = made.output; why = made_why (Make c.args.wanted) [] c.made_bytes-made.result made.memory; accepts = λ _. made.memory; refuses = λ why none. absurd none })
    put.good put.cut put.why put.refused put.unwritten
