-- How many of a set stand below a place, by the ones of its words.
use Rattle.std.proofs.Common.{◌≡◌, ℕ, zero, suc, ◌+◌, ◌-◌, ◌*◌, ◌/◌, ◌%◌, ◌^◌, ◌<◌, ◌≤◌, Bool, true, false, get_or, List, length, refl, ap, sym, ◌∙◌, arith}
use Rattle.std.specs.Prelude.{bit_and, nat_eq, count_ones}
use Rattle.std.specs.Int.{bit_at}
use Rattle.std.specs.Int.Count.{ones}
use Rattle.std.proofs.lemmas.List.{get_or_read}
use Rattle.std.proofs.lemmas.List.Sums.{count_by_more_yes, count_by_more_no}
use Rattle.std.proofs.lemmas.Nat.{ones_cat, mod-pow-add, and_mask, mod_below, pow_pos}
use Rattle.std.proofs.lemmas.Nat.Bits.{bit_at-lt}
use Rattle.bit_sets.specs.Bits.{bits_of}
use Rattle.bit_sets.specs.Rank.{rank}
use Rattle.bit_sets.proofs.Showing.{length_shown, shown_at, word_read}

ones_of_zero : count_ones 0 ≡ 0
unfolding ones
ones_of_zero = refl

ones_of_one : count_ones 1 ≡ 1
unfolding ones
ones_of_one = refl

-- one bit more of a number
ones_more : (n k : ℕ) → count_ones (n % 2 ^ suc k) ≡ count_ones (bit_at n k) + count_ones (n % 2 ^ k)
ones_more n k =
    let cut : n % 2 ^ (1 + k) ≡ (n / 2 ^ k % 2 ^ 1) * 2 ^ k + n % 2 ^ k = mod-pow-add n 1 k in
    let same : 1 + k ≡ suc k = omega arith in
    ap (λ (z : ℕ). count_ones (n % 2 ^ z)) (sym same) ∙ ap count_ones cut
    ∙ ones_cat k (bit_at n k) (n % 2 ^ k) (mod_below n (2 ^ k) (pow_pos k))

-- one place more
rank_more : (xs : List Bool) (i d : ℕ) → i < length xs → get_or xs i false ≡ nat_eq d 1 → d < 2
    → rank xs (i + 1) ≡ rank xs i + count_ones d
rank_more xs i zero below is small =
    let step = count_by_more_no (λ b. b) xs i false below is in omega (arith, step, ones_of_zero)
rank_more xs i (suc zero) below is small =
    let step = count_by_more_yes (λ b. b) xs i false below is in omega (arith, step, ones_of_one)
rank_more xs i (suc (suc d)) below is small = absurd (omega arith)

-- the first bits of a word
pub rank_part : (many block k : ℕ) (words : List ℕ) → k ≤ 64 → 64 * block + k ≤ many
    → rank (bits_of many words) (64 * block + k)
    ≡ rank (bits_of many words) (64 * block) + count_ones (get_or words block 0 % 2 ^ k)
rank_part many block zero words few below =
    let none : get_or words block 0 % 1 ≡ 0 = omega arith in
    let ones : count_ones (get_or words block 0 % 1) ≡ 0 = ap count_ones none ∙ ones_of_zero in
    let place : 64 * block + 0 ≡ 64 * block = omega arith in
    ap (rank (bits_of many words)) place ∙ omega arith
rank_part many block (suc k) words few below =
    let xs = bits_of many words in let w : ℕ = get_or words block 0 in
    let l = length_shown many words in
    let rest = rank_part many block k words (omega arith) (omega arith) in
    let its_word : (64 * block + k) / 64 ≡ block = omega arith in
    let its_bit : (64 * block + k) % 64 ≡ k = omega arith in
    let value : get_or xs (64 * block + k) false ≡ nat_eq (bit_at w k) 1 =
    shown_at many words (64 * block + k) (omega arith)
    ∙ (λ i. nat_eq (bit_at (get_or words (its_word i) 0) (its_bit i)) 1) in
    let step = rank_more xs (64 * block + k) (bit_at w k) (omega arith) value (bit_at-lt w k) in
    let ones = ones_more w k in
    let place : 64 * block + k + 1 ≡ 64 * block + suc k = omega arith in
    ap (rank xs) (sym place) ∙ omega arith

-- all bits of a word
pub rank_whole : (many block w n : ℕ) (words : List ℕ) (xs : List Bool) → n ≡ many / 64 + 1
    → n ≡ length words → bits_of many words ≡ xs → 64 * block + 64 ≤ length xs
    → w ≡ get_or words block w → w < 2 ^ 64
    → rank xs (64 * block + 64) ≡ rank xs (64 * block) + count_ones w
rank_whole many block w n words xs wide long shows below read fits =
    let l = length_shown many words in let e : length (bits_of many words) ≡ length xs = ap length shows in
    let is : w ≡ get_or words block 0 = get_or_read words block w (omega arith) read 0 in
    let all : get_or words block 0 % 2 ^ 64 ≡ w = omega arith in
    let part = rank_part many block 64 words (omega arith) (omega arith) in
    ap (λ (l : List Bool). rank l (64 * block + 64)) (sym shows) ∙ part
    ∙ (λ i. rank (shows i) (64 * block) + count_ones (all i))

-- the bits of a word below a place
pub rank_below : (many place w n mask : ℕ) (words : List ℕ) (xs : List Bool) → n ≡ many / 64 + 1
    → n ≡ length words → bits_of many words ≡ xs → place ≤ length xs
    → w ≡ get_or words (place / 64) w → mask ≡ 2 ^ (place % 64)
    → rank xs place ≡ rank xs (64 * (place / 64)) + count_ones (bit_and w (mask - 1))
rank_below many place w n mask words xs wide long shows below read is_mask =
    let l = length_shown many words in let e : length (bits_of many words) ≡ length xs = ap length shows in
    let is = word_read many n place w words xs wide long shows below read in
    let k : ℕ = place % 64 in
    let there : 64 * (place / 64) + k ≡ place = omega arith in
    let part = rank_part many (place / 64) k words (omega arith) (omega arith) in
    let masked : bit_and w (mask - 1) ≡ get_or words (place / 64) 0 % 2 ^ k =
    ap (λ (m : ℕ). bit_and w (m - 1)) is_mask ∙ and_mask w k ∙ ap (λ (z : ℕ). z % 2 ^ k) is in
    (λ i. rank (sym shows i) (sym there i)) ∙ part
    ∙ (λ i. rank (shows i) (64 * (place / 64)) + count_ones (sym masked i))

-- none between two places
zeros_from : (xs : List Bool) (from n : ℕ) → from + n ≤ length xs
    → ((k : ℕ) → from ≤ k → k < from + n → get_or xs k false ≡ false) → rank xs (from + n) ≡ rank xs from
zeros_from xs from zero within each = let place : from + 0 ≡ from = omega arith in ap (rank xs) place
zeros_from xs from (suc n) within each =
    let step = count_by_more_no (λ b. b) xs (from + n) false (omega arith) (each (from + n) (omega arith) (omega arith)) in
    let rest = zeros_from xs from n (omega arith) (λ k above below. each k above (omega arith)) in
    let place : from + n + 1 ≡ from + suc n = omega arith in
    ap (rank xs) (sym place) ∙ step ∙ rest

pub rank_zeros : (xs : List Bool) (from end : ℕ) → from ≤ end → end ≤ length xs
    → ((k : ℕ) → from ≤ k → k < end → get_or xs k false ≡ false) → rank xs end ≡ rank xs from
rank_zeros xs from end order within each =
    let place : from + (end - from) ≡ end = omega arith in
    ap (rank xs) (sym place) ∙ zeros_from xs from (end - from) (omega arith) (λ k above below. each k above (omega arith))

-- all between two places
ones_from : (xs : List Bool) (from n : ℕ) → from + n ≤ length xs
    → ((k : ℕ) → from ≤ k → k < from + n → get_or xs k false ≡ true) → rank xs (from + n) ≡ rank xs from + n
ones_from xs from zero within each = let place : from + 0 ≡ from = omega arith in ap (rank xs) place ∙ omega arith
ones_from xs from (suc n) within each =
    let step = count_by_more_yes (λ b. b) xs (from + n) false (omega arith) (each (from + n) (omega arith) (omega arith)) in
    let rest = ones_from xs from n (omega arith) (λ k above below. each k above (omega arith)) in
    let place : from + n + 1 ≡ from + suc n = omega arith in
    ap (rank xs) (sym place) ∙ step ∙ omega (arith, rest)

pub rank_ones : (xs : List Bool) (from end : ℕ) → from ≤ end → end ≤ length xs
    → ((k : ℕ) → from ≤ k → k < end → get_or xs k false ≡ true) → rank xs end ≡ rank xs from + (end - from)
rank_ones xs from end order within each =
    let place : from + (end - from) ≡ end = omega arith in
    ap (rank xs) (sym place) ∙ ones_from xs from (end - from) (omega arith) (λ k above below. each k above (omega arith))
