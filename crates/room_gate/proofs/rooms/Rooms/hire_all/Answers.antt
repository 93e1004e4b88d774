use Rattle.std.proofs.Common.{◌∙◌, ℕ, ap, sym, arith}
use Rattle.room_rule.proofs.Making.{hires}
use Rattle.room_gate.specs.PassModel.{seen_of}
use Rattle.room_gate.proofs.Making.{maker_again, hired_is_new, passes_more}
use Rattle.room_gate.proofs.rooms.Rooms.hire_all.Goals as goal

pub split_seat-seat-requires : goal.split_seat-seat-requires
split_seat-seat-requires g c =
    let inv = c.loop-who.invariant in let table = c.self.inside.table.shared in
    let maker = c.loop-who.maker in let who = inv.number in let one = c.loop-who-test.true in
    let callers = ap (λ k. k.callers) c.self.invariant.key in (
      inv.same ∙ ap (λ s. s.site) (sym c.self.view_is),
      (let wide = c.self.invariant.words in omega arith),
      hires g.U.RoomUse.meaning g.U.RoomUse.ROOMS table.key maker.id maker.me.0 inv.role
          (omega arith),
    )

pub loop-who-preserved : goal.loop-who-preserved
loop-who-preserved g c =
    let inv = c.loop-who.invariant in let e = c.split_seat-seat.ensures in
    let starts = g.U.RoomUse.meaning.starts in
    let who : ℕ = c.loop-who.who in let seat = c.split_seat-seat.result in
    let new = hired_is_new starts seat c.loop-who.maker.me.0 c.args.self.now.site c.args.limit who
    (e.3 ∙ inv.same) e.4 inv.number in
    let maker = maker_again c.loop-who.maker.me c.split_seat-seat.new.seat.me who e.2 inv.role
    inv.number in
    record {
      same = e.0 ∙ inv.same;
      role = maker.0;
      number = maker.1;
      passes =
          passes_more c.args.self.now.site c.args.limit starts who c.loop-who.passes.items
          c.push.new.self.items
          (seen_of seat who 0 c.args.limit) c.in_ok-push.ensures.items new inv.passes;
    }
