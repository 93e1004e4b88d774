use Rattle.std.proofs.Common.{◌≡◌, ℕ, ◌+◌, ◌*◌, List, drop, sym, ap, ◌∙◌, subst}
use Rattle.std.specs.Slots.{slots_items}
use Rattle.atomic_table.specs.Table.{Final, Seen}
use Rattle.room_rule.specs.Rule.{Ruled}
use Rattle.room_rule.specs.Closes.{Ends}
use Rattle.room_rule.specs.declared.rule.Plan.{Plan}
use Rattle.room_rule.proofs.Closing.{ends_with}
use Rattle.room_gate.specs.Shows.{Site}
use Rattle.room_gate.specs.Closing.{IsLeft}
use Rattle.room_gate.proofs.Closing.{left_by_end}
use Rattle.room_gate.proofs.rooms.Rooms.open_up.Goals as goal

pub returns-clause-left : goal.returns-clause-left
returns-clause-left g c =
    let M = g.U.RoomUse.meaning in let m = g.U.RoomUse.ROOMS in let k = c.self.inside.plan in
    let closed = c.close_with-closed in let seat = c.args.seat in
    let ended = seat.me.0.ended in
    let ws = slots_items closed.result.words in let xs = slots_items closed.result.slots in
    let words = c.words_from-words.result.items in let slots = c.take_slots-slots.result.items in
    let copied : words ≡ drop (1 + 3 * m) ws =
    subst (λ (r : ℕ). words ≡ drop (1 + 3 * r) ws) c.ROOMS.ensures c.words_from-words.ensures in
    let final = subst (λ (z : Plan _). Final (Seen (Ruled M m z) seat.id seat.me.0) ws xs)
    c.self.invariant.key closed.ensures.values.2 in
    let ends = ends_with M m k g.met.U.RoomUse.laws seat.id seat.me.0 ws xs c.requires.keeper
    (c.requires.all.0 ∙ sym (ap (λ (s : Site _). s.callers) c.self.view_is)) c.requires.all.1
    final in
    subst (λ (s : Site _). IsLeft M s.usage s.callers ended words slots) c.self.view_is
    (left_by_end M m k ended ws words slots
    copied
    (subst (λ (l : List _). Ends M m k ended ws l) (sym c.take_slots-slots.ensures.slots) ends))
