use Rattle.std.proofs.Common.{◌≤◌, ◌+◌, ◌*◌, suc-mul, arith}
use Rattle.std.proofs.Math.Nat.{mul-le-mul_right}
use Rattle.bay_crew.proofs.timings.rounds.Goals as goal

pub overflow_add-made : goal.overflow_add-made
overflow_add-made g c =
    let round = c.loop-round.round in let run = c.args.run in
    omega (
      arith,
      c.loop-round.invariant.few,
      c.one_run-after.ensures.few,
      suc-mul round (2 * run),
      mul-le-mul_right (2 * run) (let next : round + 1 ≤ c.args.rounds = omega (arith, c.loop-round-test.true) in next),
      c.requires.few,
    )
