-- The bits of words of which one bit is set.
use Rattle.std.proofs.Common.{◌≡◌, ◌≢◌, ℕ, zero, suc, ◌/◌, ◌%◌, ◌^◌, ◌<◌, inl, inr, List, get_or, set, replicate, length, refl, ap, sym, ◌∙◌, arith}
use Rattle.std.specs.Prelude.{bit_or}
use Rattle.std.specs.Int.{bit_at}
use Rattle.std.proofs.lemmas.Bool.{cases_eq, cases_lt}
use Rattle.std.proofs.lemmas.List.{get_or-set_same, get_or-set_other}
use Rattle.std.proofs.lemmas.Nat.{pow_below}
use Rattle.std.proofs.lemmas.Nat.Bits.{bit_at_or, bit_at-lt, bit_at-pow_same, bit_at-pow_other, bit_at-zero}
use Rattle.bit_sets.specs.Bits.{bit_of}

-- the words with the bit set
abbrev pub with_bit : List ℕ → ℕ → List ℕ
with_bit words b = set words (b / 64) (bit_or (get_or words (b / 64) 0) (2 ^ (b % 64)))

pub bit_small : (words : List ℕ) (b : ℕ) → bit_of words b < 2
bit_small words b = bit_at-lt (get_or words (b / 64) 0) (b % 64)

pub bit_same : (words : List ℕ) (b : ℕ) → b / 64 < length words → bit_of (with_bit words b) b ≡ 1
bit_same words b wide =
    let n : ℕ = get_or words (b / 64) 0 in let j : ℕ = b % 64 in let m : ℕ = 2 ^ j in
    ap (λ (w : ℕ). bit_at w j) (get_or-set_same words (b / 64) (bit_or n m) 0 wide)
    ∙ (let p = bit_at_or n m j in let q : bit_at m j ≡ 1 = bit_at-pow_same j in
    let r = bit_at-lt n j in omega arith)

pub bit_other : (words : List ℕ) (b c : ℕ) → b / 64 < length words → c ≢ b
    → bit_of (with_bit words b) c ≡ bit_of words c
bit_other words b c wide ne =
    let n : ℕ = get_or words (b / 64) 0 in let j : ℕ = c % 64 in let m : ℕ = 2 ^ (b % 64) in
    elim (cases_eq (c / 64) (b / 64)) [
      | inl same ↦ (let apart : j ≢ b % 64 = λ e. ne (omega arith) in
          ap (λ (i : ℕ). bit_at (get_or (with_bit words b) i 0) j) same
          ∙ ap (λ (w : ℕ). bit_at w j) (get_or-set_same words (b / 64) (bit_or n m) 0 wide)
          ∙ (let p = bit_at_or n m j in
          let q : bit_at m j ≡ 0 = bit_at-pow_other (b % 64) j apart in omega arith)
          ∙ ap (λ (i : ℕ). bit_at (get_or words i 0) j) (sym same))
      | inr apart ↦ ap (λ (w : ℕ). bit_at w j)
          (get_or-set_other words (b / 64) (c / 64) (bit_or n m) 0 apart)
    ]

-- a bit that is set stays set
pub bit_stays : (words : List ℕ) (b c : ℕ) → b / 64 < length words → bit_of words c ≡ 1
    → bit_of (with_bit words b) c ≡ 1
bit_stays words b c wide was = elim (cases_eq c b) [
  | inl same ↦ ap (bit_of (with_bit words b)) same ∙ bit_same words b wide
  | inr apart ↦ bit_other words b c wide apart ∙ was
]

zeros : (n i : ℕ) → ◌≡◌ {A = ℕ} (get_or (replicate n 0) i 0) 0
zeros zero i = refl
zeros (suc n) zero = refl
zeros (suc n) (suc i) = zeros n i

pub no_bit : (n b : ℕ) → bit_of (replicate n 0) b ≡ 0
no_bit n b = ap (λ (w : ℕ). bit_at w (b % 64)) (zeros n (b / 64)) ∙ bit_at-zero (b % 64)

-- one power of 2 is of one exponent
pub same_power : (i j : ℕ) → 2 ^ i ≡ 2 ^ j → i ≡ j
same_power i j e = elim (cases_eq i j) [
  | inl same ↦ same
  | inr apart ↦ absurd (elim (cases_lt i j) [
    | inl less ↦ (let p = pow_below i j less in omega arith)
    | inr more ↦ (let p = pow_below j i (omega arith) in omega arith)
  ])
]

-- a bit is known by its word and its mask
pub same_bit : (b c : ℕ) → b / 64 ≡ c / 64 → 2 ^ (b % 64) ≡ 2 ^ (c % 64) → b ≡ c
same_bit b c word mask = let rest = same_power (b % 64) (c % 64) mask in omega arith
