use Rattle.std.proofs.Common.{◌-◌, ◌^◌, ◌<◌}
use Rattle.std.specs.Prelude.{vec_len}
use Rattle.bit_sets.proofs.Seeking.{Sought}
use Rattle.bit_sets.proofs.bit_set.BitSet.next_from.Given as goal

-- no number is found before this block, whose word's rest is at hand
abbrev pub invariant-loop-rest : goal.invariant-loop-rest
invariant-loop-rest l = record {
  within : l.block < vec_len l.self-inside.words;
  fits : l.rest < 2 ^ 64;
  sought : Sought l.self-inside.words.items l.place l.block l.rest;
}

abbrev pub decreases-loop-rest : goal.decreases-loop-rest
decreases-loop-rest l = vec_len l.self-inside.words - l.block
