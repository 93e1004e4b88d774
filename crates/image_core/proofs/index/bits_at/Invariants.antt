use Rattle.std.proofs.Common.{◌≡◌, take, length}
use Rattle.image_core.specs.Index.{AreHeads}
use Rattle.image_core.proofs.index.bits_at.Given as goal

-- the headers so far have their bits
abbrev pub invariant-loop-head : goal.invariant-loop-head
invariant-loop-head l = record {
  long : length l.bits ≡ length l.words;
  bits : AreHeads (take l.head-index l.heads) l.bits;
}
