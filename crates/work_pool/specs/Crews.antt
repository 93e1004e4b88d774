-- Crews of workers.
use Rattle.std.specs.Prelude.{◌≡◌, ℕ, ◌≤◌}
use Rattle.bay_core.specs.declared.numbers.TheConstants.{MOST_BLOCKS, MOST_DRAWS}
use Rattle.bay_core.specs.declared.calls.Layout.TheVariants.{Paged}
use Rattle.work_pool.specs.declared.crews.Crew.{Crew}

-- a crew within its limits
pub record IsCrew (crew : Crew) : Type 0 where
  pub workers : (1 ≤ crew.workers) × (crew.workers ≤ 16)
  pub blocks : (1 ≤ crew.blocks) × (crew.blocks ≤ MOST_BLOCKS)
  -- two lists that share blocks need two of them
  pub paged : crew.layout ≡ Paged → 2 ≤ crew.blocks
  pub draws : (1 ≤ crew.draws) × (crew.draws ≤ MOST_DRAWS)
