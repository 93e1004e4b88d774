-- That the step may be made, in each lawful content in which its caller stands inside so.
use Rattle.std.proofs.Common.{◌≡◌, ℕ, ◌+◌, ◌^◌, ◌<◌, ◌≤◌, Option, refl, sym, subst, arith}
use Rattle.room_rule.specs.Callers.{sum_within}
use Rattle.room_rule.specs.Steps.{CanStep}
use Rattle.stay_tally.specs.declared.uses.Tally.{Tally}
use Rattle.stay_tally.specs.declared.uses.Stays.{Stays}
use Rattle.stay_tally.specs.Tally.{counted_in, counts, tallied}
use Rattle.stay_tally.specs.Staying.{counts_stay}

pub can_count : (x : Tally) (who : ℕ) (v : Stays) (room turn : ℕ)
    (held : Option (Option (Unit {0}))) → room < 4 → v.last < turn → turn ≤ 2 ^ 54
    → CanStep tallied x who v room (λ n. n + 1) room turn held (λ n. n + 1 < 2 ^ 64)
    (counts_stay room turn)
can_count x who v room turn held exists later small s ins st fits =
    let h = st.lawful in let few = h.few in let sum = h.sums room exists in
    let most = sum_within (counted_in room) (2 ^ 54) s.views (λ i a e.
    let each = h.each i a e in let cap = each.capped room exists in let low = each.small in
    omega arith) in (
      omega arith,
      (
        counts room turn v,
        record {
          turn = turn;
          held = refl;
          small = small;
          view = v;
          at = st.view;
          later = later;
          word = refl;
          value = refl;
          after = refl;
        },
        refl,
      ),
    )

-- the same of a word and a turn that are the insider's
pub can_count_in : (x : Tally) (who : ℕ) (v : Stays) (room turn word now : ℕ)
    (held : Option (Option (Unit {0}))) → word ≡ room → now ≡ turn → word < 4 → v.last < turn
    → turn ≤ 2 ^ 54
    → CanStep tallied x who v word (λ n. n + 1) room turn held (λ n. n + 1 < 2 ^ 64)
    (counts_stay word now)
can_count_in x who v room turn word now held is at exists later small =
    subst (λ (z : ℕ × ℕ). CanStep tallied x who v z.0 (λ n. n + 1) room turn held
    (λ n. n + 1 < 2 ^ 64) (counts_stay z.0 z.1)) (λ i. (sym is i, sym at i))
    (can_count x who v room turn held (omega arith) later small)
