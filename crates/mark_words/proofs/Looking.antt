-- What a look at a bit that is set shows.
use Rattle.std.proofs.Common.{◌≡◌, ℕ, zero, suc, false, nat_eq, ap, ◌∙◌}
use Rattle.atomic_table.specs.declared.shared.Seat.{Seat}
use Rattle.mark_words.specs.SeatModel.{shown}
use Rattle.mark_words.specs.Shows.{claimed}
use Rattle.mark_words.specs.View.{aims, looks}
use Rattle.mark_words.specs.declared.views.Known.{Known}

-- a bit that is not 0 is 1
pub looked_set : (b word bit : ℕ) (v w : Known) → w ≡ looks b word bit v → nat_eq bit 0 ≡ false → w ≡ looks b word 1 v
looked_set b word zero v w is set = cc
looked_set b word (suc d) v w is set = is

pub shown_looked : {S : Type 0} (seat aimed new : Seat S Known) (b word number : ℕ) → aimed.table_id ≡ seat.table_id → aimed.me.0 ≡ aims number seat.me.0
    → new.table_id ≡ aimed.table_id → new.me.0 ≡ looks b word 1 aimed.me.0 → shown new ≡ claimed b new.me.0.old false (shown seat)
shown_looked seat aimed new b word number own aim same look =
    let e : new.me.0 ≡ looks b word 1 (aims number seat.me.0) = look ∙ ap (looks b word 1) aim in
    let site : new.table_id ≡ seat.table_id = same ∙ own in
    λ i. record {
      site = site i;
      number = (e i).number;
      won = (e i).won;
      found = (e i).found;
      old = new.me.0.old;
    }
