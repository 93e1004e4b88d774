use Rattle.drop_box.proofs.Can.{can_ring}
use Rattle.drop_box.proofs.boxes.DropBox.ring.Goals as goal

pub touch_add-requires-clause-can : goal.touch_add-requires-clause-can
touch_add-requires-clause-can g c =
    can_ring c.self.inside.rooms.usage c.args.pass.now.who c.args.pass.now.user c.requires.few
