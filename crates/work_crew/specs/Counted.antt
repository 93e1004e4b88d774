-- How the drives of a crew count what its works gave.
use Rattle.std.specs.Prelude.{◌≡◌, ℕ, ◌-◌, ◌^◌, ◌≤◌, min, List, length}
use Rattle.room_rule.specs.Use.{IsAt}
use Rattle.work_pool.specs.Standing.{Standing}
use Rattle.work_pool.specs.declared.drives.Drive.{Drive}

-- A drive counted each item that its work gave: so many were shared, and the others were kept, up to the
-- last number that there is.
pub record IsCounted (s : Standing) (drive : Drive) : Type 0 where
  pub shared : drive.shared ≤ length s.given
  pub kept : drive.kept ≡ min (length s.given - drive.shared) (2 ^ 64 - 1)

-- a drive for each work, in their order, which counted what it gave
pub record AreCounted (standings : List Standing) (drives : List Drive) : Type 0 where
  pub many : length drives ≡ length standings
  pub each : (i : ℕ) (s : Standing) (drive : Drive) → IsAt standings i s → IsAt drives i drive
      → IsCounted s drive
