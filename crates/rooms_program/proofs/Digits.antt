-- How long a number in decimal digits is.
use Rattle.std.proofs.Common.{ℕ, ◌<◌, ◌≤◌, ◌^◌, length, decimal, arith}
use Rattle.std.proofs.lemmas.Fmt.{length-decimal-le}

pub short : (n : ℕ) → n < 2 ^ 64 → length (decimal n) ≤ 20
short n small = length-decimal-le 20 n (omega arith) (omega arith) small
