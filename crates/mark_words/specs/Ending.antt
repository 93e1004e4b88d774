-- What the parts of a close give, and what they leave.
use Rattle.std.specs.Prelude.{◌≡◌, ℕ, ◌<◌, Bool, true, false, cond, eqb, List, length, slice_index_or}
use Rattle.bit_sets.specs.Bits.{bit_of}
use Rattle.mark_words.specs.Bits.{times}
use Rattle.mark_words.specs.Closing.{all_won, all_found}
use Rattle.mark_words.specs.Shows.{Claimant}
use Rattle.mark_words.specs.declared.views.Known.{Known}

-- the first so many bits of the words
pub record Reads (words : List ℕ) (done : ℕ) (set : List Bool) : Type 0 where
  pub long : length set ≡ done
  pub each : (b : ℕ) → b < done → slice_index_or set b false ≡ eqb (bit_of words b) 1

-- the seat has taken in all of them
pub record HasAll (seats : List Claimant) (v : Known) : Type 0 where
  pub parts : v.parts ≡ length seats
  pub won : v.won ≡ all_won seats
  pub found : v.found ≡ all_found seats

-- what a table shows whose seats are all in one: a bit is set where that one won it, once, and what it
-- found set is set
pub record Ends (bits : ℕ) (v : Known) (set : List Bool) : Type 0 where
  pub long : length set ≡ bits
  pub won : (b : ℕ) → times b v.won ≡ cond (slice_index_or set b false) 1 0
  pub found : (b : ℕ) → 0 < times b v.found → slice_index_or set b false ≡ true
