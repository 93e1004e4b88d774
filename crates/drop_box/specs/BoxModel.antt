-- A box by its fields: contracts see the rooms that it is made of.
use Rattle.room_gate.specs.Shows.{Site}
use Rattle.drop_box.specs.declared.uses.BoxUse.{BoxUse}
use Rattle.drop_box.specs.declared.boxes.DropBox.TheInside.{Inside}

-- the rooms of a box
abbrev pub rooms_of : {T : Type 0} → Inside T → Site (BoxUse T)
rooms_of b = b.rooms
