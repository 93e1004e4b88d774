-- What a claim and a look tell the seat that makes it.
use Rattle.std.specs.Prelude.{◌≡◌, ℕ, ◌/◌, ◌%◌, ◌^◌}
use Rattle.std.specs.Int.{bit_at}
use Rattle.atomic_table.specs.Table.{Me, Step}
use Rattle.mark_words.specs.Bits.{times}
use Rattle.mark_words.specs.View.{aims, claims, looks}
use Rattle.mark_words.specs.declared.views.Known.{Known}

-- whichever bit it is whose word and mask the step has, the seat shows that it claimed it; one that was
-- clear it had neither won nor found set before
pub record Claimed {S : Type 0} (step : Step S) (before : Me S Known) (found : ℕ)
    (after : Me S Known) : Type 0 where
  pub view : (b : ℕ) → step.word ≡ b / 64 → step.first ≡ 2 ^ (b % 64)
      → after.0 ≡ claims b found (bit_at found (b % 64)) before.0
  pub fresh : (b : ℕ) → step.word ≡ b / 64 → step.first ≡ 2 ^ (b % 64)
      → bit_at found (b % 64) ≡ 0 → (times b before.0.won ≡ 0) × (times b before.0.found ≡ 0)
  pub slots : after.1 ≡ before.1

-- the seat will look at the place of the step's word
pub record Named {S : Type 0} (step : Step S) (before : Me S Known) (found : ℕ)
    (after : Me S Known) : Type 0 where
  pub view : after.0 ≡ aims step.word before.0
  pub slots : after.1 ≡ before.1

-- whichever bit it is whose word the step has and at whose place the seat looks, the seat shows that it
-- found it set, if it was
pub record Looked {S : Type 0} (step : Step S) (before : Me S Known) (found : ℕ)
    (after : Me S Known) : Type 0 where
  pub view : (b : ℕ) → step.word ≡ b / 64 → before.0.aim % 64 ≡ b % 64
      → after.0 ≡ looks b found (bit_at found (b % 64)) before.0
  pub slots : after.1 ≡ before.1
