-- What contracts see of a reader or a writer of std.
use Rattle.std.specs.Prelude.{ℕ}

-- the device, and how many of its calls failed
pub record Counted (D : Type 0) : Type 0 where
  pub device : D
  pub faults : ℕ
