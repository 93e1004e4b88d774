-- What the header of bytes says of the rest.
use Rattle.std.specs.Prelude.{◌≡◌, ℕ, List, length, slice_range}
use Rattle.image_reader.specs.Bytes.{word_bytes}
use Rattle.image_reader.specs.Fault.{HasHeader, format_said, words_said, roots_said, length_said}
use Rattle.image_reader.specs.declared.frame.Frame.{Frame}

-- the header is good, these are its format and its counts, and there are as many bytes as it says
pub record IsFrame (bytes : List ℕ) (frame : Frame) : Type 0 where
  pub header : HasHeader bytes
  pub whole : length bytes ≡ length_said bytes
  pub format : frame.format ≡ format_said bytes
  pub words : frame.words ≡ words_said bytes
  pub roots : frame.roots ≡ roots_said bytes
  pub words_spelled : word_bytes frame.words ≡ slice_range bytes 8 16
  pub roots_spelled : word_bytes frame.roots ≡ slice_range bytes 16 24
