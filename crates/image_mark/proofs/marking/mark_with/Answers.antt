use Rattle.image_mark.proofs.Whole.{rest_new, last_new}
use Rattle.image_mark.proofs.marking.mark_with.Goals as goal

pub crew_marks-requires-clause-seats : goal.crew_marks-requires-clause-seats
crew_marks-requires-clause-seats g c κs within = rest_new _ _ _ _ _ c.in-Some.ensures.items c.in_ok-claims.ensures.seats

pub finished-requires-clause-new : goal.finished-requires-clause-new
finished-requires-clause-new g c = last_new _ _ _ _ _ c.in-Some.ensures.items c.in_ok-claims.ensures.seats
