use Rattle.std.proofs.Common.{List, [], ◌∷◌, length, length-append, refl, ap, ◌∙◌, arith}
use lib.ListN.{get_elem?}
use Rattle.atomic_table.proofs.Lists.{at_longer, at_last}
use Rattle.mark_words.specs.Closing.{all_won, all_found}
use Rattle.mark_words.proofs.Closing.{so_far, append_none}
use Rattle.mark_words.proofs.set_ups.Claims.gather.Goals as goal

pub loop-other-init : goal.loop-other-init
loop-other-init c = record {
  same = c.newest-seat.ensures.own;
  own = c.requires;
  parts = (let e = c.newest-seat.ensures.blank.0 in omega arith);
  won = append_none (all_won c.args.seats.items) c.newest-seat.result.me.0.won c.newest-seat.ensures.blank.1;
  found =
      append_none (all_found c.args.seats.items) c.newest-seat.result.me.0.found c.newest-seat.ensures.blank.2;
}

pub take_in-requires : goal.take_in-requires
take_in-requires c =
    let inv = c.loop-other.invariant in let rest = c.pop.new.self.items in
    let other = c.in-Some.other in (
      inv.same,
      inv.own (length rest) other
          (ap (λ (l : List _). get_elem? l (length rest)) c.in-Some.ensures.items
          ∙ at_last rest other (length rest) refl),
    )

pub loop-other-preserved : goal.loop-other-preserved
loop-other-preserved c =
    let inv = c.loop-other.invariant in let rest = c.pop.new.self.items in
    let other = c.in-Some.other in let all = c.in-Some.ensures.items in
    let old = c.loop-other.seat.me.0 in let new = c.take_in.new.seat.me.0 in
    record {
      same = c.take_in.ensures.own ∙ inv.same;
      own = λ i p at. inv.own i p
          (ap (λ (l : List _). get_elem? l i) all ∙ at_longer rest (other ∷ []) i p at);
      parts = (let p = inv.parts in let q = c.take_in.ensures.parts in
          let l = ap length all ∙ length-append rest (other ∷ []) in omega arith);
      won = so_far (λ z. z.won) c.loop-other.seats.items rest other old.won new.won
          (all_won c.args.seats.items) all c.take_in.ensures.won inv.won;
      found = so_far (λ z. z.found) c.loop-other.seats.items rest other old.found new.found
          (all_found c.args.seats.items) all c.take_in.ensures.found inv.found;
    }
