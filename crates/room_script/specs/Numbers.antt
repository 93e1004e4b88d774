-- Numbers in a text.
use Rattle.std.specs.Prelude.{◌≡◌, ℕ, ◌^◌, ◌<◌, List, ◌++◌, codes, decimal}

-- the bytes are the digits of a number that fits 64 bits, as printed: no sign, no leading zero
pub record IsNumber (bytes : List ℕ) (n : ℕ) : Type 0 where
  pub fits : n < 2 ^ 64
  pub digits : bytes ≡ decimal n

-- the bytes are this word, and then the digits of a number that fits 64 bits
pub record IsNumberAfter (word bytes : List ℕ) (n : ℕ) : Type 0 where
  pub fits : n < 2 ^ 64
  pub digits : bytes ≡ word ++ decimal n

-- the bytes are the digits of two such numbers, with one space between them
pub record IsTwoNumbers (bytes : List ℕ) (a b : ℕ) : Type 0 where
  pub first_fits : a < 2 ^ 64
  pub second_fits : b < 2 ^ 64
  pub digits : bytes ≡ decimal a ++ (codes " " ++ decimal b)
