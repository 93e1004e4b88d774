use Rattle.std.proofs.Common.{◌≡◌, length}
use Rattle.stay_tally.specs.Crews.{HasStayed}
use Rattle.stay_tally.proofs.crews.rounds.Given as goal

abbrev pub invariant-loop-round : goal.invariant-loop-round
invariant-loop-round g l = record {
  stayed : HasStayed l.spread l.from l.round l.fn.pass l.pass;
  wide : length l.pass.user.counted ≡ 4;
}
