use Rattle.std.proofs.Common.{◌≡◌, refl, arith}
use Rattle.mark_words.specs.View.{nobody}
use Rattle.mark_words.proofs.Steps.{enters}
use Rattle.mark_words.proofs.set_ups.Claims.newest.Goals as goal

pub load_new_seat-requires : goal.load_new_seat-requires
load_new_seat-requires c =
    let table = c.self.inside.table.shared in (
      (let wide = c.self.invariant.words in omega arith),
      enters table.key table.table_id.slots 0 (λ _ v. v ≡ nobody) (λ n. refl),
    )
