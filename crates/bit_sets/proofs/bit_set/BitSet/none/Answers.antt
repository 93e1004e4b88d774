use Rattle.std.proofs.Common.{◌+◌, ◌/◌, ap, ◌∙◌}
use Rattle.bit_sets.specs.Bits.{bits_of}
use Rattle.bit_sets.proofs.Showing.{none_shown}
use Rattle.bit_sets.proofs.bit_set.BitSet.none.Goals as goal

pub returns : goal.returns
returns c =
    let bits = c.args.bits in
    ap (bits_of bits) (c.in_ok-words.ensures.items_if_clones_equal (λ y e. e))
    ∙ none_shown bits (bits / 64 + 1)
