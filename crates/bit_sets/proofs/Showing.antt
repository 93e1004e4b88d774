-- What a set shows, by the bits of its words.
use Rattle.std.proofs.Common.{◌≡◌, ℕ, zero, suc, ◌+◌, ◌/◌, ◌%◌, ◌^◌, ◌<◌, ◌≤◌, inl, inr, Bool, true, false, not, get_or, set, replicate, List, length, length-set, refl, ap, sym, ◌∙◌, arith}
use Rattle.std.specs.Prelude.{bit_and, bit_or, nat_eq}
use Rattle.std.specs.Int.{bit_at}
use Rattle.std.proofs.lemmas.Bool.{cases_eq}
use Rattle.std.proofs.lemmas.List.{ext_get_or, length-replicate, get_or-replicate, get_or_read, get_or-set_same, get_or-set_other}
use Rattle.std.proofs.lemmas.List.FromFn.{length-map-range_with_len, get_or-map-range_with_len}
use Rattle.std.proofs.lemmas.Nat.Bits.{shr_and_one, bit_at-lt}
use Rattle.bit_sets.specs.Bits.{is_one, bits_of}
use Rattle.bit_sets.proofs.Bits.{with_bit, bit_same, bit_other, no_bit}

pub length_shown : (many : ℕ) (words : List ℕ) → length (bits_of many words) ≡ many
length_shown many words = length-map-range_with_len (is_one words) 0 many

pub shown_at : (many : ℕ) (words : List ℕ) (b : ℕ) → b < many
    → get_or (bits_of many words) b false ≡ is_one words b
shown_at many words b below = get_or-map-range_with_len (is_one words) 0 many b b false below (omega arith)

-- a set is known by its bits
pub is_shown : (many : ℕ) (words : List ℕ) (xs : List Bool) → length xs ≡ many
    → ((b : ℕ) → b < many → is_one words b ≡ get_or xs b false) → bits_of many words ≡ xs
is_shown many words xs long each =
    let l = length_shown many words in
    ext_get_or false (bits_of many words) xs (l ∙ sym long) (λ b below.
    let within : b < many = omega arith in shown_at many words b within ∙ each b within)

pub none_shown : (many n : ℕ) → bits_of many (replicate n 0) ≡ replicate many false
none_shown many n = is_shown many (replicate n 0) (replicate many false) (length-replicate many false) (λ b below.
    ap (λ (z : ℕ). nat_eq z 1) (no_bit n b) ∙ sym (get_or-replicate many b false false below))

pub more_shown : (many : ℕ) (words : List ℕ) (b : ℕ) → b < many → b / 64 < length words
    → bits_of many (with_bit words b) ≡ set (bits_of many words) b true
more_shown many words b below wide =
    let xs = bits_of many words in let l = length_shown many words in
    is_shown many (with_bit words b) (set xs b true) (length-set xs b true ∙ l) (λ c within.
    elim (cases_eq c b) [
      | inl same ↦ ap (is_one (with_bit words b)) same ∙ ap (λ (z : ℕ). nat_eq z 1) (bit_same words b wide)
          ∙ sym (get_or-set_same xs b true false (omega arith)) ∙ ap (λ (i : ℕ). get_or (set xs b true) i false) (sym same)
      | inr apart ↦ ap (λ (z : ℕ). nat_eq z 1) (bit_other words b c wide apart)
          ∙ sym (shown_at many words c within) ∙ sym (get_or-set_other xs b c true false apart)
    ])

-- a place up to the length has its word
pub word_there : (many n place : ℕ) (words : List ℕ) (xs : List Bool) → n ≡ many / 64 + 1
    → bits_of many words ≡ xs → place ≤ length xs → place / 64 < n
word_there many n place words xs wide shows below =
    let l = length_shown many words in let e : length (bits_of many words) ≡ length xs = ap length shows in
    omega arith

-- the word of such a place, as it is read
pub word_read : (many n place w : ℕ) (words : List ℕ) (xs : List Bool) → n ≡ many / 64 + 1
    → n ≡ length words → bits_of many words ≡ xs → place ≤ length xs
    → w ≡ get_or words (place / 64) w → w ≡ get_or words (place / 64) 0
word_read many n place w words xs wide long shows below read =
    get_or_read words (place / 64) w
    (let there = word_there many n place words xs wide shows below in omega arith) read 0

-- a number of the set by its word
pub known_at : (many b w : ℕ) (words : List ℕ) (xs : List Bool) → bits_of many words ≡ xs
    → b < length xs → w ≡ get_or words (b / 64) 0 → get_or xs b false ≡ nat_eq (bit_at w (b % 64)) 1
known_at many b w words xs shows below read =
    let l = length_shown many words in let e : length (bits_of many words) ≡ length xs = ap length shows in
    ap (λ (l : List Bool). get_or l b false) (sym shows) ∙ shown_at many words b (omega arith)
    ∙ ap (λ (z : ℕ). nat_eq (bit_at z (b % 64)) 1) (sym read)

-- a number of the set by its bit, shifted down
pub read_at : (many b w : ℕ) (words : List ℕ) (xs : List Bool) → bits_of many words ≡ xs
    → b < length xs → w ≡ get_or words (b / 64) 0
    → nat_eq (bit_and (w / 2 ^ (b % 64)) 1) 1 ≡ get_or xs b false
read_at many b w words xs shows below read =
    ap (λ (z : ℕ). nat_eq z 1) (shr_and_one w (b % 64)) ∙ sym (known_at many b w words xs shows below read)

zero_or_one : (n : ℕ) → n < 2 → nat_eq n 0 ≡ not (nat_eq n 1)
zero_or_one zero below = refl
zero_or_one (suc zero) below = refl
zero_or_one (suc (suc n)) below = absurd (omega arith)

-- and whether it is not in it
pub absent_at : (many b w : ℕ) (words : List ℕ) (xs : List Bool) → bits_of many words ≡ xs
    → b < length xs → w ≡ get_or words (b / 64) 0
    → nat_eq (bit_and (w / 2 ^ (b % 64)) 1) 0 ≡ not (get_or xs b false)
absent_at many b w words xs shows below read =
    ap (λ (z : ℕ). nat_eq z 0) (shr_and_one w (b % 64))
    ∙ zero_or_one (bit_at w (b % 64)) (bit_at-lt w (b % 64))
    ∙ ap not (sym (known_at many b w words xs shows below read))

-- the words after a bit is set show the set with that number
pub put_in : (many b w mask : ℕ) (words : List ℕ) (xs : List Bool) → bits_of many words ≡ xs
    → b < length xs → b / 64 < length words → w ≡ get_or words (b / 64) 0 → mask ≡ 2 ^ (b % 64)
    → bits_of many (set words (b / 64) (bit_or w mask)) ≡ set xs b true
put_in many b w mask words xs shows below wide read is_mask =
    let l = length_shown many words in let e : length (bits_of many words) ≡ length xs = ap length shows in
    (λ i. bits_of many (set words (b / 64) (bit_or (read i) (is_mask i))))
    ∙ more_shown many words b (omega arith) wide ∙ ap (λ (l : List Bool). set l b true) shows
