use Rattle.std.proofs.Common.{◌≡◌, ◌∙◌, ℕ, ◌+◌, Some, refl, ap, sym, subst, arith, eqb}
use prog.Atomic.{either}
use Rattle.room_core.specs.declared.acts.Act.TheVariants.{Step}
use Rattle.room_core.specs.Active.{pack, turn_of}
use Rattle.room_rule.specs.Told.{stepped_by}
use Rattle.room_rule.proofs.Entering.{seizes}
use Rattle.room_gate.proofs.Owing.{of_act}
use Rattle.room_gate.proofs.Stepping.{seize_goes}
use Rattle.room_gate.proofs.rooms.Rooms.seize.Goals as goal

pub compare_exchange-requires : goal.compare_exchange-requires
compare_exchange-requires g c =
    let idle = c.args.idle in let new = c.pack-new.result in
    let new_is : new ≡ pack (turn_of idle + 1) (c.args.room + 1) =
    subst (λ (turn : ℕ). new ≡ pack (turn + 1) (c.args.room + 1)) c.turn_of.ensures c.pack-new.ensures in
    of_act g.U.RoomUse.meaning g.U.RoomUse.ROOMS c.self.inside c.self.invariant c.args.self.now c.self.view_is c.args.seat.now c.requires.own
    0 0 refl (omega arith) (λ n. either (eqb n idle) new n) (λ n after. stepped_by g.U.RoomUse.meaning g.U.RoomUse.ROOMS c.args.seat.now.me n after) Step
    (seizes _ _ _ _ _ c.args.seat.now.me c.args.room c.args.ticket idle new (Some c.args.first) c.requires.role c.requires.phase new_is)

pub returns : goal.returns
returns g c =
    let swap = c.compare_exchange in
    seize_goes g.U.RoomUse.meaning g.U.RoomUse.ROOMS c.args.seat.now swap.new.seat swap.result
    swap.ensures.0 swap.ensures.2 c.args.room c.args.ticket c.args.idle (Some c.args.first)
    c.requires.phase
