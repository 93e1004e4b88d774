use Rattle.std.proofs.Common.{◌↔◌, drop, map, string_bytes}
use Rattle.command_words.specs.Forms.{HaveParts, Follow}
use Rattle.command_words.proofs.parts.have_parts.Given as goal

abbrev pub invariant-loop-word : goal.invariant-loop-word
invariant-loop-word l = HaveParts (map string_bytes l.words) ↔ Follow l.waits (drop l.word-index (map string_bytes l.words))
