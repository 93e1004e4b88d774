use Rattle.std.proofs.Common.{inl, inr}
use Rattle.rooms_program.proofs.Inputs.{alone_reads}
use Rattle.rooms_program.proofs.Performing.{performed, without_input}
use Rattle.rooms_program.proofs.perform.perform_alone.Goals as goal

pub returns : goal.returns
returns g c =
    let read = rw (← c.deref.ensures.value) at c.in-Ok.ensures.read in
    let known = rw (← c.deref.ensures.value) at c.in-Ok.ensures.known in
    let put = c.write_made.ensures in
    performed g.S.Source.left g.S.Source.faults g.K.Sink.written g.K.Sink.faults _ _ _ _ _ c.args.command c.deref.result.now c.output_alone-made.result
    (λ _. read) (λ _. known) (λ none. absurd (none (alone_reads c.args.command c.requires))) c.output_alone-made.ensures
    put.good put.cut put.why put.refused put.unwritten

pub returns-in-Err : goal.returns-in-Err
returns-in-Err g c =
    let reads = alone_reads c.args.command c.requires in
    without_input g.S.Source.left g.S.Source.faults g.K.Sink.written g.K.Sink.faults _ _ _ c.args.command c.in-Err.status
    (λ none. absurd (none reads)) (elim c.in-Err.ensures.why [ inl m ↦ inl m | inr f ↦ inr (f.0, reads, f.1) ])
