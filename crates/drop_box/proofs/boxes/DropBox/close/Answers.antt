use Rattle.std.proofs.Common.{sym, ap, ◌∙◌}
use Rattle.room_gate.specs.Shows.{Site}
use Rattle.drop_box.proofs.Left.{left_of}
use Rattle.drop_box.proofs.boxes.DropBox.close.Goals as goal

pub returns-in-Ok-clause-words : goal.returns-in-Ok-clause-words
returns-in-Ok-clause-words g c = let rooms = c.self.inside.rooms in
    let many = c.requires.many ∙ sym (ap (λ (s : Site _). s.callers) c.self.view_is) in
    left_of rooms.usage rooms.callers c.args.passes.items c.in-Ok.left.words.items
    c.in-Ok.left.slots.items many c.in-Ok.ensures.left
