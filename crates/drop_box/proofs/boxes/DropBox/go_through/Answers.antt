use Rattle.drop_box.proofs.Can.{can_go_through}
use Rattle.drop_box.proofs.boxes.DropBox.go_through.Goals as goal

pub add-requires-clause-can : goal.add-requires-clause-can
add-requires-clause-can g c = let i = c.args.inside.now in
    can_go_through c.self.inside.rooms.usage i.caller.who i.caller.user i.opening.room
    i.opening.turn i.held c.requires.new
