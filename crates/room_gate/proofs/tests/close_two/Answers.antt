use Rattle.std.proofs.Common.{sym, subst}
use Rattle.room_gate.specs.Closing.{AreAll}
use Rattle.room_gate.proofs.Closing.{two_pushed, two_are_all}
use Rattle.room_gate.proofs.tests.close_two.Goals as goal

pub close_all-requires : goal.close_all-requires
close_all-requires g c =
    let a = c.args in let own = c.requires.own in let both = c.requires.both in
    let items = two_pushed a.one a.two c.in_ok-passes.passes.items c.push_reserved.new.self.items
    c.push_reserved-2.new.self.items c.in_ok-passes.ensures.items c.push_reserved.ensures.items
    c.push_reserved-2.ensures.items in
    subst (AreAll a.rooms.site a.rooms.callers) (sym items)
    (two_are_all a.one a.two a.rooms.site a.rooms.callers both.0 own.0 own.1 both.1)
