use Rattle.std.proofs.Common.{ℕ, ap, sym, ◌∙◌, subst}
use Rattle.std.specs.Slots.{slots_items}
use Rattle.atomic_table.specs.Table.{Final, Seen}
use Rattle.mark_words.specs.Rule.{Ruled}
use Rattle.mark_words.specs.Ending.{Ends}
use Rattle.mark_words.specs.declared.rule.Plan.{Plan}
use Rattle.mark_words.proofs.Closing.{ends}
use Rattle.mark_words.proofs.set_ups.Claims.open_up.Goals as goal

pub returns : goal.returns
returns c =
    let k = c.self.inside.plan in let seat = c.args.seat in
    let closed = c.close_with-closed in
    let ws = slots_items closed.result.words in let xs = slots_items closed.result.slots in
    let set = c.read_bits-set.result.items in
    let final = subst (λ (z : Plan). Final (Seen (Ruled z) seat.id seat.me.0) ws xs)
    c.self.invariant.key closed.ensures.values.2 in
    let bits = ap (λ s. s.bits) c.self.view_is in
    subst (λ (n : ℕ). Ends n seat.me.0 set) bits
    (ends k seat.id seat.me.0 ws xs set
    (c.requires.all ∙ sym (ap (λ s. s.seats) c.self.view_is)) final c.read_bits-set.ensures)
