use Rattle.rooms_program.proofs.Performing.{performed, without_input}
use Rattle.rooms_program.proofs.perform.perform.Goals as goal

pub returns : goal.returns
returns g c =
    let read = c.in-Ok.ensures in
    let put = c.write_made.ensures in
    performed g.S.Source.left g.S.Source.faults g.K.Sink.written g.K.Sink.faults _ _ _ _ _ c.args.command c.in-Ok.bytes.items c.output-made.result
    read.read read.known read.unread c.output-made.ensures put.good put.cut put.why put.refused put.unwritten

pub returns-in-Err : goal.returns-in-Err
returns-in-Err g c =
    without_input g.S.Source.left g.S.Source.faults g.K.Sink.written g.K.Sink.faults _ _ _ c.args.command c.in-Err.status
    c.in-Err.ensures.unread c.in-Err.ensures.why
