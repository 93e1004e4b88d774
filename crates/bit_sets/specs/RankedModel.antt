-- A counted set by its counts.
use Rattle.std.specs.Prelude.{◌≡◌, ℕ, ◌+◌, ◌*◌, ◌/◌, ◌^◌, ◌<◌, Bool, List, length, slice_index}
use Rattle.bit_sets.specs.Rank.{rank}
use Rattle.bit_sets.specs.declared.ranked_bits.RankedBits.TheInside.{Inside}

-- how many of the set stand before each of the first blocks of 64 numbers
pub record Counts (set : List Bool) (blocks : ℕ) (before : List ℕ) : Type 0 where
  pub long : length before ≡ blocks
  pub each : (block : ℕ) → block < blocks → slice_index before block ≡ rank set (64 * block)

-- each whole block has its count, and so has the rest
pub record IsCounted (r : Inside) : Type 0 where
  pub few : length r.set < 2 ^ 32
  pub counts : Counts r.set (length r.set / 64 + 1) r.before.items
