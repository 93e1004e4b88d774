-- What the loop of a set-up keeps.
use Rattle.std.proofs.Common.{◌≡◌, ℕ, zero, suc, ◌+◌, ◌⊎◌, ⊎_elim, inl, inr, List, [], ◌∷◌, ◌++◌, length, length-append, refl, ap, sym, ◌∙◌, subst, arith}
use mathlib.Core.Option.{some-injective, some-ne-none}
use Rattle.atomic_table.specs.Seated.{TableId}
use Rattle.atomic_table.specs.Table.{Me}
use Rattle.atomic_table.specs.declared.shared.Seat.{Seat}
use Rattle.mark_words.specs.Rule.{IsAt}
use Rattle.mark_words.specs.Making.{AreSeats}
use Rattle.mark_words.specs.SeatModel.{shown}
use Rattle.mark_words.specs.Shows.{Claimant, newcomer}
use Rattle.mark_words.specs.View.{hired}
use Rattle.mark_words.specs.declared.views.Known.{Known}

-- a place of a longer list is an old one, or the new one
at_end : {A : Type 0} (l : List A) (a b : A) (j : ℕ) → IsAt (l ++ a ∷ []) j b
    → IsAt l j b ⊎ ((j ≡ length l) × (a ≡ b))
at_end [] a b zero e = inr (refl, some-injective a b e)
at_end [] a b (suc j) e = absurd (some-ne-none b (sym e))
at_end (x ∷ xs) a b zero e = inl e
at_end (x ∷ xs) a b (suc j) e = ⊎_elim (λ t. inl t) (λ t. inr (ap suc t.0, t.1)) (at_end xs a b j e)

-- a seat that the maker has made is a newcomer
pub hired_is_new : {S : Type 0} (seat : Seat S Known) (maker : Known) (site : TableId) (number : ℕ)
    → seat.table_id ≡ site → seat.me ≡ (hired maker, []) → maker.number ≡ number
    → shown seat ≡ newcomer site number
hired_is_new {S} seat maker site number own e counted = λ i. record {
  site = own i;
  number = (ap (λ (z : Me S Known). z.0.number) e ∙ counted) i;
  won = (e i).0.won;
  found = (e i).0.found;
  old = (e i).0.old;
}

pub no_seats : (site : TableId) (seats : List Claimant) → seats ≡ [] → AreSeats site 0 seats
no_seats site seats is = subst (AreSeats site 0) (sym is)
    (record { long = refl; each = λ i c at. absurd (some-ne-none c (sym at)) })

-- one seat more
pub seats_more : (site : TableId) (made : ℕ) (seats more : List Claimant) (c : Claimant)
    → more ≡ seats ++ c ∷ [] → c ≡ newcomer site made → AreSeats site made seats
    → AreSeats site (made + 1) more
seats_more site made seats more c is new h =
    subst (AreSeats site (made + 1)) (sym is) (record {
      long = (let l = h.long in
          let q : length (seats ++ c ∷ []) ≡ length seats + 1 = length-append seats (c ∷ []) in
          omega arith);
      each = λ i d at. ⊎_elim (λ f. h.each i d f)
          (λ (t : (i ≡ length seats) × (c ≡ d)). sym t.1 ∙ new
          ∙ ap (newcomer site) (sym (t.0 ∙ h.long)))
          (at_end seats c d i at);
    })

-- two that are taken from the end of two are both of them
pub two_of : {A : Type 0} (all rest less : List A) (one two : A) → all ≡ rest ++ two ∷ [] → rest ≡ less ++ one ∷ []
    → length all ≡ 2 → all ≡ one ∷ two ∷ []
two_of all rest [] one two a b long = a ∙ ap (λ l. l ++ two ∷ []) b
two_of all rest (x ∷ less) one two a b long =
    absurd (omega (arith, long, ap length a, ap length b, length-append rest (two ∷ []), length-append less (one ∷ [])))
