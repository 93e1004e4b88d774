-- The rule of the table of claims.
use Rattle.std.specs.Prelude.{◌≡◌, ℕ, ◌/◌, ◌<◌, ◌≤◌, List, [], length}
use mathlib.Core.Option.{some}
use lib.ListN.{get_elem?}
use Rattle.atomic_table.specs.Table.{State}
use Rattle.bit_sets.specs.Bits.{bit_of}
use Rattle.mark_words.specs.Bits.{times, total}
use Rattle.mark_words.specs.declared.rule.Plan.{Plan}
use Rattle.mark_words.specs.declared.views.Known.{Known}

-- the value stands at the place
abbrev pub IsAt : {A : Type 0} → List A → ℕ → A → Type 0
IsAt xs i a = get_elem? xs i ≡ some a

-- its bits are exactly the wins of all seats, each once, and what a seat found set is set
pub record Ruled {S : Type 0} (k : Plan) (s : State S Known) : Type 0 where
  -- a bit that is 1 was won once, by one seat, and a bit that is 0 was won by none
  pub won : (b : ℕ) → total (λ v. times b v.won) s.views ≡ bit_of s.words b
  -- what a seat found set is set
  pub found : (id : ℕ) (v : Known) (b : ℕ) → IsAt s.views id v → 0 < times b v.found
      → bit_of s.words b ≡ 1
  -- no bit past the last one is set, and each bit has its word
  pub clear : (b : ℕ) → k.bits ≤ b → bit_of s.words b ≡ 0
  pub wide : k.bits / 64 < length s.words
  -- the parts of all seats are as many as the seats of the set-up, and a seat with none won nothing
  pub parts : total (λ v. v.parts) s.views ≡ k.seats
  pub idle : (id : ℕ) (v : Known) → IsAt s.views id v → v.parts ≡ 0 → v.won ≡ []
