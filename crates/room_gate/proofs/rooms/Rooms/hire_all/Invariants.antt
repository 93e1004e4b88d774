use Rattle.std.proofs.Common.{◌≡◌}
use Rattle.room_rule.specs.declared.views.Role.TheVariants.{Maker}
use Rattle.room_gate.specs.Making.{ArePasses}
use Rattle.room_gate.proofs.rooms.Rooms.hire_all.Given as goal

abbrev pub invariant-loop-who : goal.invariant-loop-who
invariant-loop-who g l = record {
  same : l.maker.table_id ≡ l.self.site;
  role : l.maker.me.0.role ≡ Maker;
  number : l.maker.me.0.who ≡ l.who;
  passes : ArePasses l.self.site l.limit g.U.RoomUse.meaning.starts l.who l.passes.items;
}
