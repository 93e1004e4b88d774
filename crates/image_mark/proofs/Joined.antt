-- What all seats show together.
use Rattle.std.proofs.Common.{◌≡◌, ℕ, zero, suc, ◌+◌, ◌≤◌, inl, inr, List, [], ◌∷◌, ◌++◌, length, sum_by, refl, sym, ap, ◌∙◌, subst, arith}
use Rattle.std.specs.List.{Contains}
use mathlib.Core.Option.{some-ne-none}
use Rattle.std.proofs.lemmas.List.{length-append, append-nil, append_assoc}
use Rattle.std.proofs.lemmas.List.Sums.{sum_by-cons}
use Rattle.std.proofs.lemmas.List.Elements.{Contains-append_left, Contains-append_right, Contains-append_cases}
use Rattle.room_rule.specs.Use.{IsAt}
use Rattle.room_rule.specs.Callers.{one_view}
use Rattle.mark_words.specs.Shows.{Claimant}
use Rattle.mark_words.specs.Closing.{joined}
use Rattle.work_pool.specs.declared.drives.Drive.{Drive}
use Rattle.work_crew.proofs.Members.{in_none}

-- what one of the seats shows, among what all show
pub in_joined : (f : Claimant → List ℕ) (seats : List Claimant) (i : ℕ) (s : Claimant) (x : ℕ) → IsAt seats i s
    → Contains (f s) x → Contains (joined f seats) x
in_joined f [] i s x at there = absurd (some-ne-none s (sym at))
in_joined f (c ∷ cs) zero s x at there =
    Contains-append_left (f c) (joined f cs) x (subst (λ z. Contains (f z) x) (sym (one_view (c ∷ cs) 0 c s refl at)) there)
in_joined f (c ∷ cs) (suc i) s x at there = Contains-append_right (f c) (joined f cs) x (in_joined f cs i s x at there)

pub from_joined : (f : Claimant → List ℕ) (seats : List Claimant) (x : ℕ) → Contains (joined f seats) x
    → (i : ℕ) × (s : Claimant) × IsAt seats i s × Contains (f s) x
from_joined f [] x there = in_none _ x there
from_joined f (c ∷ cs) x there = elim (Contains-append_cases (f c) (joined f cs) x there) [
  | inl here ↦ (0, c, refl, here)
  | inr rest ↦ let of = from_joined f cs x rest in (suc of.0, of.1, of.2, of.3)
]

pub part_of_joined : (f : Claimant → List ℕ) (seats : List Claimant) (i : ℕ) (s : Claimant) → IsAt seats i s
    → length (f s) ≤ length (joined f seats)
part_of_joined f [] i s at = absurd (some-ne-none s (sym at))
part_of_joined f (c ∷ cs) zero s at =
    let same : c ≡ s = one_view (c ∷ cs) 0 c s refl at in
    omega (arith, length-append (f c) (joined f cs), ap (λ z. length (f z)) same)
part_of_joined f (c ∷ cs) (suc i) s at = omega (arith, length-append (f c) (joined f cs), part_of_joined f cs i s at)

-- one seat more
pub joined_push : (f : Claimant → List ℕ) (seats : List Claimant) (s : Claimant)
    → joined f (seats ++ s ∷ []) ≡ joined f seats ++ f s
joined_push f [] s = append-nil (f s)
joined_push f (c ∷ cs) s = ap (λ l. f c ++ l) (joined_push f cs s) ∙ sym (append_assoc (f c) (joined f cs) (f s))

-- what the drives count, where each counts what its seat won
pub sums_joined : (drives : List Drive) (seats : List Claimant) → length drives ≡ length seats
    → ((i : ℕ) (d : Drive) (s : Claimant) → IsAt drives i d → IsAt seats i s → d.shared + d.kept ≡ length s.won)
    → sum_by (λ d. d.shared) drives + sum_by (λ d. d.kept) drives ≡ length (joined (λ s. s.won) seats)
sums_joined [] [] same each = refl
sums_joined [] (s ∷ seats) same each = absurd (omega (arith, same))
sums_joined (d ∷ drives) [] same each = absurd (omega (arith, same))
sums_joined (d ∷ drives) (s ∷ seats) same each =
    omega (
      arith,
      sum_by-cons (λ (e : Drive). e.shared) d drives,
      sum_by-cons (λ (e : Drive). e.kept) d drives,
      length-append s.won (joined (λ z. z.won) seats),
      each 0 d s refl refl,
      sums_joined drives seats (omega (arith, same)) (λ i e z at its. each (suc i) e z at its),
    )
