use Rattle.std.proofs.Common.{map, string_bytes, sym, ◌∙◌}
use Rattle.command_words.specs.Words.{Names}
use Rattle.rooms_program.proofs.Performing.{told, untold, wanting}
use Rattle.rooms_program.proofs.run.answer.Goals as goal

pub returns-in-Ok-Some : goal.returns-in-Ok-Some
returns-in-Ok-Some g c =
    let named = c.in-Ok-Some.ensures in
    told g.S.Source.left g.S.Source.faults g.K.Sink.written g.K.Sink.faults _ _ _ _ _
    (Names (map string_bytes c.args.words.now)) c.in-Ok-Some.command (rw c.in-Ok-Some.field-0-is at named.names)
    (λ other is. sym c.in-Ok-Some.field-0-is ∙ named.only other is) c.perform.ensures

pub returns-in-Ok-None : goal.returns-in-Ok-None
returns-in-Ok-None g c =
    let named = c.in-Ok-None.ensures in
    untold g.S.Source.left g.S.Source.faults g.K.Sink.written g.K.Sink.faults
    (Names (map string_bytes c.args.words.now)) _ _ (rw c.in-Ok-None.field-0-is at named.names)

pub returns-in-Err : goal.returns-in-Err
returns-in-Err g c =
    wanting g.S.Source.left g.S.Source.faults g.K.Sink.written g.K.Sink.faults
    (Names (map string_bytes c.args.words.now)) _ _
