use Rattle.std.proofs.Common.{◌≡◌, ◌∙◌, ap, sym, subst, arith}
use Rattle.room_rule.specs.View.{noted, learned}
use Rattle.room_rule.specs.Told.{Seated}
use Rattle.room_rule.specs.Looking.{looked_by}
use Rattle.room_rule.proofs.Seats.{notes, learns}
use Rattle.room_gate.proofs.Owing.{of_split, of_join}
use Rattle.room_gate.proofs.Meeting.{meets}
use Rattle.room_gate.proofs.rooms.Rooms.compare.Goals as goal

pub split_seat-of_one-requires : goal.split_seat-of_one-requires
split_seat-of_one-requires g c =
    of_split g.U.RoomUse.meaning g.U.RoomUse.ROOMS c.self.inside c.self.invariant c.args.self.now c.self.view_is c.args.one.now c.requires.own.0
    _ _ (notes _ _ _ _ _ c.requires.inside.0.1.role)

pub split_seat-of_two-requires : goal.split_seat-of_two-requires
split_seat-of_two-requires g c =
    of_split g.U.RoomUse.meaning g.U.RoomUse.ROOMS c.self.inside c.self.invariant c.args.self.now c.self.view_is c.args.two.now c.requires.own.1
    _ _ (notes _ _ _ _ _ c.requires.inside.1.1.role)

pub join_seat-requires : goal.join_seat-requires
join_seat-requires g c =
    let mine = c.split_seat-of_one.ensures in let other = c.split_seat-of_two.ensures in
    of_join g.U.RoomUse.meaning g.U.RoomUse.ROOMS c.self.inside c.self.invariant c.args.self.now c.self.view_is c.split_seat-of_one.new.seat (mine.0 ∙ c.requires.own.0)
    c.split_seat-of_two.result (other.3 ∙ c.requires.own.1) (ap (λ (me : Seated _ _). me.1) other.4) _ _
    (learns _ _ _ _ _ _ _ (ap (λ (me : Seated _ _). me.0.role) mine.2 ∙ c.requires.inside.0.1.role) (ap (λ (me : Seated _ _). me.0.role) other.4))

pub join_seat-requires-2 : goal.join_seat-requires-2
join_seat-requires-2 g c =
    let mine = c.split_seat-of_two.ensures in let other = c.split_seat-of_one.ensures in
    of_join g.U.RoomUse.meaning g.U.RoomUse.ROOMS c.self.inside c.self.invariant c.args.self.now c.self.view_is c.split_seat-of_two.new.seat (mine.0 ∙ c.requires.own.1)
    c.split_seat-of_one.result (other.3 ∙ c.requires.own.0) (ap (λ (me : Seated _ _). me.1) other.4) _ _
    (learns _ _ _ _ _ _ _ (ap (λ (me : Seated _ _). me.0.role) mine.2 ∙ c.requires.inside.1.1.role) (ap (λ (me : Seated _ _). me.0.role) other.4))

pub returns : goal.returns
returns g c =
    let one = c.split_seat-of_one.ensures in let two = c.split_seat-of_two.ensures in
    let me = c.args.one.now.me in let me' = c.args.two.now.me in
    let after = c.look_again.new.seat.me in let after' = c.look_again-2.new.seat.me in
    let n = c.look_again.result in let n' = c.look_again-2.result in
    let learned_one : c.join_seat.new.seat.me ≡ (learned me.0 (noted me'.0), me.1) =
    c.join_seat.ensures.2 ∙ (λ i. (learned (one.2 i).0 (two.4 i).0, (one.2 i).1)) in
    let learned_two : c.join_seat-2.new.seat.me ≡ (learned me'.0 (noted me.0), me'.1) =
    c.join_seat-2.ensures.2 ∙ (λ i. (learned (two.2 i).0 (one.4 i).0, (two.2 i).1)) in
    let m = meets me me' after after' c.requires.inside.0.0 c.requires.inside.1.0 n n'
    c.requires.inside.0.1 c.requires.inside.1.1
    (subst (λ (z : Seated _ _). looked_by z n after) learned_one c.look_again.ensures.told)
    (subst (λ (z : Seated _ _). looked_by z n' after') learned_two c.look_again-2.ensures.told) in
    record {
      one = (c.look_again.ensures.own ∙ c.join_seat.ensures.0 ∙ one.0, m.one);
      two = (c.look_again-2.ensures.own ∙ c.join_seat-2.ensures.0 ∙ two.0, m.two);
      seen = m.seen;
    }
