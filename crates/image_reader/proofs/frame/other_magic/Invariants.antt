use Rattle.std.proofs.Common.{◌≡◌, take}
use Rattle.image_reader.specs.Bytes.{name_bytes}
use Rattle.image_reader.proofs.frame.other_magic.Given as goal

abbrev pub invariant-loop-place : goal.invariant-loop-place
invariant-loop-place l = take l.place l.bytes ≡ take l.place name_bytes
