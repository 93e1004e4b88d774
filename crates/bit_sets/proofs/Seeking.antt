-- The search for the next number of a set, word by word.
use Rattle.std.proofs.Common.{◌≡◌, ℕ, ◌+◌, ◌-◌, ◌*◌, ◌/◌, ◌%◌, ◌^◌, ◌<◌, ◌≤◌, inl, inr, Bool, false, get_or, List, length, refl, ap, sym, ◌∙◌, arith}
use Rattle.std.specs.Prelude.{bit_and, nat_eq}
use Rattle.std.specs.Int.{bit_at, w64, trailing_zeros}
use Rattle.std.proofs.lemmas.Bool.{cases_lt}
use Rattle.std.proofs.lemmas.List.{get_or_past}
use Rattle.std.proofs.lemmas.Nat.Bits.{bit_at_and, bit_at-zero, bit_at-lt, bit_at_mask_below, bit_at_mask_inside, bit_at-trailing_zeros}
use Rattle.bit_sets.specs.Bits.{bit_of, bits_of}
use Rattle.bit_sets.specs.Next.{IsNext}
use Rattle.bit_sets.proofs.Showing.{length_shown, shown_at}

-- no bit from the place on is 1 before the block, and the rest is its word from the place on
pub record Sought (words : List ℕ) (place block rest : ℕ) : Type 0 where
  pub begun : place / 64 ≤ block
  pub none : (k : ℕ) → place ≤ k → k < 64 * block → bit_of words k ≡ 0
  pub low : (k : ℕ) → k / 64 ≡ block → k < place → bit_at rest (k % 64) ≡ 0
  pub high : (k : ℕ) → k / 64 ≡ block → place ≤ k → bit_at rest (k % 64) ≡ bit_of words k

pub begins : (words : List ℕ) (place w mask : ℕ) → w ≡ get_or words (place / 64) 0
    → mask ≡ 2 ^ 64 - 2 ^ (place % 64) → Sought words place (place / 64) (bit_and w mask)
begins words place w mask read is_mask =
    let cut : (j : ℕ) → bit_at (bit_and w mask) j ≡ bit_at (bit_and w (2 ^ 64 - 2 ^ (place % 64))) j = λ j.
    ap (λ (m : ℕ). bit_at (bit_and w m) j) is_mask in
    record {
      begun = omega arith;
      none = λ k from below. absurd (omega arith);
      low = λ k its below. (let both = bit_at_and w (2 ^ 64 - 2 ^ (place % 64)) (k % 64) in
          let c = cut (k % 64) in
          let off = bit_at_mask_below (place % 64) 64 (k % 64) (omega arith) in omega (arith, both, c, off));
      high = λ k its from. (let both = bit_at_and w (2 ^ 64 - 2 ^ (place % 64)) (k % 64) in
          let c = cut (k % 64) in
          let on = bit_at_mask_inside (place % 64) 64 (k % 64) (omega arith) (omega arith) in
          let small = bit_at-lt w (k % 64) in
          let value : bit_at w (k % 64) ≡ bit_of words k =
          ap (λ (z : ℕ). bit_at z (k % 64)) (read ∙ ap (λ (i : ℕ). get_or words i 0) (sym its)) in
          omega (arith, both, c, on, small, value));
    }

-- a word of zeros is passed over
pub passes : (words : List ℕ) (place block rest w : ℕ) → rest ≡ 0
    → w ≡ get_or words (block + 1) 0 → Sought words place block rest → Sought words place (block + 1) w
passes words place block rest w zeros read s = record {
  begun = (let b = s.begun in omega arith);
  none = λ k from below. elim (cases_lt k (64 * block)) [
    | inl before ↦ s.none k from before
    | inr here ↦ sym (s.high k (omega arith) from) ∙ ap (λ (z : ℕ). bit_at z (k % 64)) zeros
        ∙ bit_at-zero (k % 64)
  ];
  low = λ k its below. absurd (let b = s.begun in omega arith);
  high = λ k its from. ap (λ (z : ℕ). bit_at z (k % 64)) (read ∙ ap (λ (i : ℕ). get_or words i 0) (sym its));
}

-- bits that are 0 are numbers that the set has not
pub not_known : (many : ℕ) (words : List ℕ) (xs : List Bool) (k : ℕ) → bits_of many words ≡ xs
    → (k < many → bit_of words k ≡ 0) → get_or xs k false ≡ false
not_known many words xs k shows zero_there =
    ap (λ (l : List Bool). get_or l k false) (sym shows) ∙ elim (cases_lt k many) [
      | inl within ↦ shown_at many words k within ∙ ap (λ (z : ℕ). nat_eq z 1) (zero_there within)
      | inr past ↦ get_or_past (bits_of many words) k false
          (let l = length_shown many words in omega arith)
    ]

-- after the last block there is no next one
pub no_next : (many n place block rest : ℕ) (words : List ℕ) (xs : List Bool) → n ≡ many / 64 + 1
    → bits_of many words ≡ xs → block + 1 ≡ n → rest ≡ 0 → Sought words place block rest
    → (k : ℕ) → place ≤ k → get_or xs k false ≡ false
no_next many n place block rest words xs wide shows last zeros s k from =
    not_known many words xs k shows (λ within.
    (passes words place block rest (get_or words (block + 1) 0) zeros refl s).none k from (omega arith))

-- the lowest bit of the rest is the next number, where it is within the set
pub is_next : (many place block rest : ℕ) (words : List ℕ) (xs : List Bool)
    → bits_of many words ≡ xs → Sought words place block rest → 0 < rest → rest < 2 ^ 64
    → trailing_zeros w64 rest < many - block * 64
    → IsNext xs place (block * 64 + trailing_zeros w64 rest)
is_next many place block rest words xs shows s some fits within =
    let t : ℕ = trailing_zeros w64 rest in let next : ℕ = block * 64 + t in
    let at = bit_at-trailing_zeros w64 rest some fits in
    let few : t < 64 = at.0 in
    let its : next / 64 ≡ block = omega arith in
    let bit : next % 64 ≡ t = omega arith in
    let one : bit_at rest (next % 64) ≡ 1 = ap (bit_at rest) bit ∙ at.1 in
    let above : place ≤ next = elim (cases_lt next place) [
      | inl below ↦ absurd (let zero_there = s.low next its below in omega arith)
      | inr from ↦ from
    ] in
    let l = length_shown many words in
    let e : length (bits_of many words) ≡ length xs = ap length shows in
    record {
      above = above;
      within = omega arith;
      there = ap (λ (l : List Bool). get_or l next false) (sym shows) ∙ shown_at many words next (omega arith)
          ∙ ap (λ (z : ℕ). nat_eq z 1) (sym (s.high next its above) ∙ one);
      least = λ k from below. not_known many words xs k shows (λ there. elim (cases_lt k (64 * block)) [
        | inl before ↦ s.none k from before
        | inr here ↦ sym (s.high k (omega arith) from) ∙ at.2 (k % 64) (omega arith)
      ]);
    }

-- and where it is not, there is no next one
pub past_next : (many place block rest : ℕ) (words : List ℕ) (xs : List Bool)
    → bits_of many words ≡ xs → Sought words place block rest → 0 < rest → rest < 2 ^ 64
    → many - block * 64 ≤ trailing_zeros w64 rest
    → (k : ℕ) → place ≤ k → get_or xs k false ≡ false
past_next many place block rest words xs shows s some fits past k from =
    let t : ℕ = trailing_zeros w64 rest in
    let at = bit_at-trailing_zeros w64 rest some fits in
    let few : t < 64 = at.0 in
    not_known many words xs k shows (λ within. elim (cases_lt k (64 * block)) [
      | inl before ↦ s.none k from before
      | inr here ↦ sym (s.high k (omega arith) from) ∙ at.2 (k % 64) (omega arith)
    ])
