-- What this caller writes for what it read.
use Rattle.std.specs.Prelude.{ℕ, List}
use Rattle.std.specs.declared.option.Option.{Option}
use Rattle.std.specs.Io.KnownBytes.{Appends, Consumes, IsAtEnd}
use Rattle.image_slide.specs.Compact.{IsCompacted}

-- all bytes were taken from the source, and the sink gained what they are compacted to
pub record IsPassedOn (left left_now written written_now : Option (List ℕ)) : Type 0 where
  pub input : List ℕ
  pub output : List ℕ
  pub taken : Consumes left left_now input
  pub ended : IsAtEnd left_now
  pub compact : IsCompacted input output
  pub gained : Appends written written_now output
