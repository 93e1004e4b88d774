use Rattle.std.proofs.Common.{length, ap, arith}
use Rattle.std.proofs.lemmas.List.{length-reverse}
use Rattle.work_crew.specs.Working.{IsReady, EndsWell}
use Rattle.work_crew.proofs.Reversed.{ready_backward, given_backward}
use Rattle.work_crew.proofs.ends.in_threads.Goals as goal

pub each_in_a_thread-requires-after_bounds : goal.each_in_a_thread-requires-after_bounds
each_in_a_thread-requires-after_bounds g c κs within i p h is =
    ready_backward (IsReady g.W.Work.stands c.args.bay.now.site) c.args.places.items
    (λ j q k at. c.requires j q (omega (arith, k, c.args.places.ok.0)) at)
    c.reversed-backward.result.items c.reversed-backward.ensures i p (omega (arith, h, c.reversed-backward.result.ok.0)) is

pub returns-clause-len : goal.returns-clause-len
returns-clause-len g c = omega (
  arith,
  ap length c.reversed.ensures,
  length-reverse c.in_ok-ends.ends.items,
  ap length c.reversed-backward.ensures,
  length-reverse c.args.places.items,
  c.in_ok-ends.ensures.len,
  c.in_ok-ends.ends.ok.0,
  c.reversed.result.ok.0,
  c.reversed-backward.result.ok.0,
  c.args.places.ok.0,
)

pub returns-clause-each : goal.returns-clause-each
returns-clause-each g c = given_backward (λ p e. EndsWell c.args.bay.now.usage g.W.Work.stands g.W.Work.leads g.W.Work.made c.args.way p e)
    c.args.places.items c.reversed-backward.result.items c.reversed.result.items c.in_ok-ends.ends.items
    c.reversed-backward.ensures (omega (arith, c.in_ok-ends.ensures.len, c.in_ok-ends.ends.ok.0, c.reversed-backward.result.ok.0))
    c.reversed.ensures c.in_ok-ends.ensures.each
