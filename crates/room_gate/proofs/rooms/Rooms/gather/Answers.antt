use Rattle.std.proofs.Common.{List, [], ◌∷◌, map, length, refl, ap, ◌∙◌}
use lib.ListN.{get_elem?}
use Rattle.atomic_table.proofs.Lists.{at_longer, at_last}
use Rattle.room_gate.specs.Closing.{last_of}
use Rattle.room_gate.proofs.Closing.{gathered}
use Rattle.room_gate.proofs.rooms.Rooms.gather.Goals as goal

pub take_in-requires-clause-own : goal.take_in-requires-clause-own
take_in-requires-clause-own g c =
    let inv = c.loop-pass.invariant in let rest = c.pop.new.self.items in
    let pass = c.in-Some.pass in (
      inv.same,
      inv.own (length rest) pass
          (ap (λ (l : List _). get_elem? l (length rest)) c.in-Some.ensures.items
          ∙ at_last rest pass (length rest) refl),
    )

pub loop-pass-preserved : goal.loop-pass-preserved
loop-pass-preserved g c =
    let inv = c.loop-pass.invariant in let rest = c.pop.new.self.items in
    let pass = c.in-Some.pass in let all = c.in-Some.ensures.items in
    let ended = c.loop-pass.seat.me.0.ended in
    record {
      same = c.take_in.ensures.own ∙ inv.same;
      keeper = c.take_in.ensures.keeper;
      own = λ i p at. inv.own i p
          (ap (λ (l : List _). get_elem? l i) all ∙ at_longer rest (pass ∷ []) i p at);
      ended = gathered last_of c.loop-pass.passes.items rest pass ended
          c.take_in.new.seat.me.0.ended (map last_of c.args.passes.items) all
          c.take_in.ensures.ended inv.ended;
    }
