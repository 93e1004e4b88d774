use Rattle.std.proofs.Common.{List, length, ap, sym, ◌∙◌}
use Rattle.std.specs.Prelude.{Bool}
use Rattle.bit_sets.proofs.Showing.{length_shown}
use Rattle.bit_sets.proofs.bit_set.BitSet.len.Goals as goal

pub returns : goal.returns
returns c =
    let s = c.self.inside in
    sym (length_shown s.len s.words.items) ∙ ap (λ (l : List Bool). length l) c.self.view_is
