use Rattle.std.proofs.Common.{refl}
use Rattle.room_gate.proofs.Making.{two_of}
use Rattle.room_gate.proofs.tests.pair.Goals as goal

pub returns : goal.returns
returns g c =
    let all = two_of c.args.passes.items _ c.pop-2.new.self.items c.in_ok-one.one c.in_ok-two.two c.in_ok-two.ensures.items c.in_ok-one.ensures.items c.requires.long in
    (c.requires.each 0 c.in_ok-one.one (rw all refl), c.requires.each 1 c.in_ok-two.two (rw all refl))
