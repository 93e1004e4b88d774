use Rattle.std.proofs.Common.{◌∙◌}
use Rattle.mark_words.proofs.Closing.{told}
use Rattle.mark_words.proofs.set_ups.Claims.close.Goals as goal

pub open_up-requires-clause-all : goal.open_up-requires-clause-all
open_up-requires-clause-all c = c.gather-seat.ensures.all.parts ∙ c.requires.many

pub returns-clause-told : goal.returns-clause-told
returns-clause-told c =
    told c.args.self.bits c.args.seats.items c.gather-seat.result.me.0 c.open_up.result.items
    c.gather-seat.ensures.all c.open_up.ensures
