use Rattle.std.proofs.Common.{◌≤◌, ◌+◌, ◌*◌, suc-mul, arith}
use Rattle.std.proofs.Math.Nat.{mul-le-mul_right}
use Rattle.bay_crew.specs.Handfuls.{calls_in}
use Rattle.bay_crew.proofs.PuttingSome.{few_calls}
use Rattle.bay_crew.proofs.handfuls.turns.Goals as goal

pub overflow_add-made : goal.overflow_add-made
overflow_add-made g c =
    let round = c.loop-round._round in let turn = c.args.turn in let times = c.args.times in
    omega (
      arith,
      c.loop-round.invariant.few,
      c.one_turn-after.ensures.few,
      suc-mul round (calls_in turn),
      mul-le-mul_right (calls_in turn) (let next : round + 1 ≤ times = omega (arith, c.loop-round-test.true) in next),
      few_calls turn times,
      c.ranges.times.fits,
    )
