use Rattle.std.proofs.Common.{◌≡◌, ℕ, zero, suc, ◌+◌, ◌*◌, ◌/◌, ◌%◌, ◌<◌, nat_eq, false, refl, ◌∙◌, ap, sym, arith}
use Rattle.std.specs.Int.{bit_at}
use Rattle.std.proofs.lemmas.Nat.Bits.{shr_and_one}
use Rattle.mark_words.specs.Shows.{claimed}
use Rattle.mark_words.specs.View.{aims}
use Rattle.mark_words.proofs.Steps.{names_place, looks_at_bit}
use Rattle.mark_words.proofs.Looking.{looked_set, shown_looked}
use Rattle.mark_words.proofs.set_ups.Claims.is_clear.Goals as goal

bit_one : (bit : ℕ) → bit < 2 → nat_eq bit 0 ≡ false → bit ≡ 1
bit_one zero small some = cc
bit_one (suc bit) small some = omega (arith, small)

pub load-requires : goal.load-requires
load-requires c =
    let seat = c.seat.inside.seat in let table = c.self.inside.table.shared in
    let own = ap (λ s. s.site) (sym c.self.view_is) in (
      ap (λ s. s.site) c.seat.view_is ∙ c.requires.own ∙ own,
      (let wide = c.self.invariant.words in omega arith),
      names_place table.key table.table_id.slots seat.id seat.me _,
    )

pub load-seen-requires : goal.load-seen-requires
load-seen-requires c =
    let seat = c.load.new.seat in let table = c.self.inside.table.shared in
    let b : ℕ = c.args.bit in
    let own = ap (λ s. s.site) (sym c.self.view_is) in
    let bits : c.args.self.now.bits ≡ c.self.inside.plan.bits = ap (λ s. s.bits) (sym c.self.view_is) in
    let bit = c.requires.bit in
    let place : seat.me.0.aim % 64 ≡ b % 64 = ap (λ v. v.aim % 64) c.load.ensures.2.view ∙ omega arith in (
      c.load.ensures.0 ∙ ap (λ s. s.site) c.seat.view_is ∙ c.requires.own ∙ own,
      (let wide = c.self.invariant.words in omega arith),
      looks_at_bit table.key table.table_id.slots seat.id seat.me (b / 64) b refl place,
    )

pub returns-clause-set : goal.returns-clause-set
returns-clause-set c set =
    let b : ℕ = c.args.bit in let word : ℕ = c.load-seen.result in
    let some : nat_eq (bit_at word (b % 64)) 0 ≡ false = ap (λ n. nat_eq n 0) (sym (shr_and_one word (b % 64))) ∙ set in
    let place : c.load.new.seat.me.0.aim % 64 ≡ b % 64 = ap (λ v. v.aim % 64) c.load.ensures.2.view ∙ omega arith in
    let look = looked_set b word _ _ _ (c.load-seen.ensures.2.view b refl place) some in
    shown_looked c.seat.inside.seat c.load.new.seat c.load-seen.new.seat b word _ c.load.ensures.0 c.load.ensures.2.view c.load-seen.ensures.0 look
    ∙ ap (claimed b c.load-seen.new.seat.me.0.old false) c.seat.view_is

pub returns-clause-old : goal.returns-clause-old
returns-clause-old c set =
    let b : ℕ = c.args.bit in let word : ℕ = c.load-seen.result in
    let some : nat_eq (bit_at word (b % 64)) 0 ≡ false = ap (λ n. nat_eq n 0) (sym (shr_and_one word (b % 64))) ∙ set in
    let place : c.load.new.seat.me.0.aim % 64 ≡ b % 64 = ap (λ v. v.aim % 64) c.load.ensures.2.view ∙ omega arith in
    let look = looked_set b word _ _ _ (c.load-seen.ensures.2.view b refl place) some in
    ap (λ v. bit_at v.old (b % 64)) look ∙ bit_one (bit_at word (b % 64)) (omega arith) some
