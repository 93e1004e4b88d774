use Rattle.std.proofs.Common.{◌∙◌, ℕ, None, List, replicate, sym, subst}
use Rattle.atomic_table.specs.Table.{opening}
use Rattle.room_rule.specs.View.{maker}
use Rattle.room_rule.specs.Rule.{Ruled}
use Rattle.room_rule.specs.declared.rule.Plan.{Plan}
use Rattle.room_rule.proofs.Making.{opens}
use Rattle.room_gate.proofs.rooms.Rooms.set_up.Goals as goal

pub vacant-requires : goal.vacant-requires
vacant-requires g c =
    let laid = c.in_ok-words.ensures in let M = g.U.RoomUse.meaning in let m = g.U.RoomUse.ROOMS in
    let k : Plan _ = record { usage = c.args.usage; callers = c.args.callers } in
    let words = sym (c.as_slice.ensures.value ∙ laid.is) in let slots = sym c.slots-slots.ensures in
    subst (λ (z : List ℕ × ℕ). Ruled M m k (opening z.0 (replicate z.1 None) (maker M.starts)))
    (λ i. (words i, slots i))
    (opens M m k g.met.U.RoomUse.laws c.requires.rooms laid.user c.requires.callers laid.long
    laid.each)
