use Rattle.std.proofs.Common.{subst, sym}
use Rattle.command_words.specs.Words.{IsCount, IsLayout}
use Rattle.command_words.proofs.Said.{unroomed}
use Rattle.command_words.proofs.values.options.Goals as goal

pub returns-else-has_room : goal.returns-else-has_room
returns-else-has_room c = λ parts assigns other give.
    let few = c.if-has_room.ensures.no_ in
    unroomed parts c.in_ok-layout.layout c.in_ok-blocks.blocks
    (subst (λ texts. IsLayout texts c.in_ok-layout.layout) (sym assigns.layout_is) c.in_ok-layout.ensures)
    (subst (λ texts. IsCount texts 16384 64 c.in_ok-blocks.blocks) (sym assigns.blocks_are) c.in_ok-blocks.ensures)
    few.0 few.1 other give
