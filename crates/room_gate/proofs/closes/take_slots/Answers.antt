use Rattle.std.proofs.Common.{◌≡◌, ℕ, ◌+◌, List, length, refl, ◌∙◌, subst, arith}
use Rattle.std.specs.Slots.{slots_items, slots_filled}
use Rattle.room_rule.specs.Use.{IsAt}
use Rattle.room_gate.proofs.Closing.{pushed_on, still_full, empty_now}
use Rattle.room_gate.proofs.closes.take_slots.Goals as goal

pub loop-slot-preserved : goal.loop-slot-preserved
loop-slot-preserved g c =
    let inv = c.loop-slot.invariant in let all = slots_items c.args.closed.now.slots in
    let slot : ℕ = c.loop-slot.slot in let old = c.loop-slot.closed.slots in
    let others = c.take.ensures.others in let value = c.take.result in
    let new = c.take.new.self.slots in
    let counts : old.len ≡ length (slots_filled old) = old.ok.1 in
    let below = c.loop-slot-test.true in let long = inv.long in
    let at : IsAt all slot value =
    subst (λ (l : List _). IsAt l slot value) inv.same c.take.ensures.value in
    record {
      taken = pushed_on all c.loop-slot.slots.items c.push.new.self.items slot (slot + 1) value
          refl c.in-Ok.ensures.items inv.taken at;
      same = others.0 ∙ inv.same;
      long = others.2 ∙ inv.long;
      full = λ k from to. still_full (slots_filled old) (slots_filled new) slot k others.1 from
          (inv.full k (omega arith) to);
      empty = λ k under. empty_now (slots_filled old) (slots_filled new) slot k others.1
          (omega arith) under (inv.empty k);
      room = (let r = inv.room in let more = c.push.ensures.capacity in omega arith);
    }
