use Rattle.std.proofs.Common.{◌≡◌, map, Ok}
use Rattle.room_trial.proofs.crews.parted.Given as goal

abbrev pub invariant-loop-pass : goal.invariant-loop-pass
invariant-loop-pass l = record {
  passes : l.parts.passes.items ≡ map (λ end. end.pass) l.yielded;
  entries : map (λ list. Ok list) l.parts.entries.items ≡ map (λ end. end.entries) l.yielded;
}
