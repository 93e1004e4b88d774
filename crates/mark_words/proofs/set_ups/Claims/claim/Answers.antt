use Rattle.std.proofs.Common.{◌≡◌, ℕ, ◌/◌, ◌%◌, refl, ◌∙◌, ap, sym, arith, rules}
use Rattle.std.proofs.lemmas.Nat.{one_shl}
use Rattle.mark_words.proofs.Steps.{claims_bit}
use Rattle.mark_words.proofs.set_ups.Claims.claim.Goals as goal

pub fetch_or-found-requires : goal.fetch_or-found-requires
fetch_or-found-requires c =
    let seat = c.seat.inside.seat in let table = c.self.inside.table.shared in
    let b : ℕ = c.args.bit in
    let own = ap (λ s. s.site) (sym c.self.view_is) in
    let bits : c.args.self.now.bits ≡ table.key.bits =
    ap (λ s. s.bits) (sym c.self.view_is) ∙ ap (λ k. k.bits) (sym c.self.invariant.key) in
    let plan : table.key.bits ≡ c.self.inside.plan.bits = ap (λ k. k.bits) c.self.invariant.key in
    let bit = c.requires.bit in (
      ap (λ s. s.site) (c.seat.view_is ∙ c.is_clear.ensures.clear (search rules)) ∙ c.requires.own ∙ own,
      (let wide = c.self.invariant.words in omega arith),
      claims_bit table.key table.table_id.slots seat.id seat.me (b / 64) _ b (omega arith) refl
          (one_shl (b % 64) 64 (omega arith)) c.seat.invariant.part,
    )
