-- What a close takes in, and what it answers.
use Rattle.std.specs.Prelude.{◌≡◌, ℕ, ◌≤◌, ◌↔◌, Bool, true, false, List, [], ◌∷◌, ◌++◌, length, Contains, slice_index_or}
use Rattle.atomic_table.specs.Seated.{TableId}
use Rattle.mark_words.specs.Bits.{times}
use Rattle.mark_words.specs.Rule.{IsAt}
use Rattle.mark_words.specs.Shows.{Claimant}

-- the seats are all those of the set-up
pub record AreAll (site : TableId) (made : ℕ) (seats : List Claimant) : Type 0 where
  pub many : length seats ≡ made
  pub own : (i : ℕ) (c : Claimant) → IsAt seats i c → c.site ≡ site

-- what all seats show of one kind, seat by seat
abbrev pub joined : (Claimant → List ℕ) → List Claimant → List ℕ
joined f [] = []
joined f (c ∷ cs) = f c ++ joined f cs

-- what the seats won
abbrev pub all_won : List Claimant → List ℕ
all_won seats = joined (λ c. c.won) seats

-- what the seats found set
abbrev pub all_found : List Claimant → List ℕ
all_found seats = joined (λ c. c.found) seats

-- Whether each bit is set: it is where a seat won it, no bit was won twice, and what a seat found set
-- is set.
pub record IsTold (bits : ℕ) (seats : List Claimant) (set : List Bool) : Type 0 where
  pub long : length set ≡ bits
  pub won : (b : ℕ) → (slice_index_or set b false ≡ true) ↔ Contains (all_won seats) b
  pub once : (b : ℕ) → times b (all_won seats) ≤ 1
  pub found : (b : ℕ) → Contains (all_found seats) b → slice_index_or set b false ≡ true
