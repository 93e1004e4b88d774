use Rattle.std.proofs.Common.{◌≡◌, ◌<◌, ◌≤◌, ℕ, false, get_or, length}
use Rattle.callers_bits.proofs.counted.Given as goal

-- the set has the marks before this place, and nothing from there on
abbrev pub invariant-loop-place : goal.invariant-loop-place
invariant-loop-place l = record {
  long : length l.set ≡ length l.marks;
  done : (k : ℕ) → k < l.place → get_or l.set k false ≡ get_or l.marks k false;
  rest : (k : ℕ) → l.place ≤ k → get_or l.set k false ≡ false;
}
