use Rattle.std.proofs.Common.{List, length, sym, ap, ◌∙◌, subst}
use Rattle.std.proofs.lemmas.List.{length-map}
use Rattle.room_rule.specs.Closes.{AreApart}
use Rattle.room_gate.specs.Closing.{last_of}
use Rattle.room_gate.proofs.Closing.{ended_apart}
use Rattle.room_gate.proofs.rooms.Rooms.close.Goals as goal

pub open_up-requires-clause-all : goal.open_up-requires-clause-all
open_up-requires-clause-all g c =
    let passes = c.args.passes.items in let ended = c.gather-seat.ensures.ended in (
      ap length ended ∙ length-map passes last_of ∙ c.requires.many,
      subst (λ (l : List _). AreApart l) (sym ended) (ended_apart passes c.requires.once),
    )
