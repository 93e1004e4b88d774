-- Runs of numbers that are put into a set.
use Rattle.std.proofs.Common.{◌≡◌, ℕ, ◌+◌, ◌-◌, ◌*◌, ◌/◌, ◌%◌, ◌^◌, ◌<◌, ◌≤◌, inl, inr, Bool, true, false, get_or, set, take, drop, replicate, List, ◌++◌, length, ap, sym, ◌∙◌, arith}
use Rattle.std.specs.Prelude.{bit_or, nat_eq}
use Rattle.std.specs.Int.{bit_at}
use Rattle.std.proofs.lemmas.Bool.{cases_eq, cases_lt}
use Rattle.std.proofs.lemmas.List.{ext_get_or, length-append, length-take-le, length-drop, length-replicate, get_or_append_left, get_or-append_right, get_or-take, get_or-drop, get_or-replicate, get_or-set_same, get_or-set_other}
use Rattle.std.proofs.Math.Nat.{mul_comm, mul-sub}
use Rattle.std.proofs.lemmas.Nat.{shl_whole, pow_pos, pow-add}
use Rattle.std.proofs.lemmas.Nat.Bits.{bit_at_or, bit_at-lt, bit_at_mask_below, bit_at_mask_inside, bit_at_mask_above, ones_shr}
use Rattle.bit_sets.specs.Bits.{bits_of, bit_of, is_one}
use Rattle.bit_sets.specs.Run.{with_run}
use Rattle.bit_sets.proofs.Showing.{length_shown, shown_at, is_shown}

module _ (xs : List Bool) (from end : ℕ) (order : from ≤ end) (within : end ≤ length xs) where
  front : length (take from xs) ≡ from
  front = length-take-le from xs (omega arith)

  many : length (replicate (end - from) true) ≡ end - from
  many = length-replicate (end - from) true

  -- the length stays
  pub run_long : length (with_run xs from end) ≡ length xs
  run_long = omega (
    arith,
    front,
    many,
    length-drop end xs,
    length-append (take from xs) (replicate (end - from) true ++ drop end xs),
    length-append (replicate (end - from) true) (drop end xs),
  )

  -- below the run, in it, and above it
  pub run_below : (k : ℕ) → k < from → get_or (with_run xs from end) k false ≡ get_or xs k false
  run_below k below =
      get_or_append_left (take from xs) (replicate (end - from) true ++ drop end xs) false k (omega (arith, front))
      ∙ get_or-take from xs k false below

  behind : (k : ℕ) → from ≤ k
      → get_or (with_run xs from end) k false ≡ get_or (replicate (end - from) true ++ drop end xs) (k - from) false
  behind k above = get_or-append_right (take from xs) (replicate (end - from) true ++ drop end xs) from k false front above

  pub run_inside : (k : ℕ) → from ≤ k → k < end → get_or (with_run xs from end) k false ≡ true
  run_inside k above below =
      behind k above
      ∙ get_or_append_left (replicate (end - from) true) (drop end xs) false (k - from) (omega (arith, many))
      ∙ get_or-replicate (end - from) (k - from) true false (omega arith)

  pub run_above : (k : ℕ) → end ≤ k → get_or (with_run xs from end) k false ≡ get_or xs k false
  run_above k above =
      let place : end + (k - from - (end - from)) ≡ k = omega arith in
      behind k (omega arith)
      ∙ get_or-append_right (replicate (end - from) true) (drop end xs) (end - from) (k - from) false many (omega arith)
      ∙ get_or-drop end xs (k - from - (end - from)) false
      ∙ ap (λ (i : ℕ). get_or xs i false) place

-- a set is one with the run, where it is so at each number
pub is_run : (xs ys : List Bool) (from end : ℕ) → from ≤ end → end ≤ length xs → length ys ≡ length xs
    → ((k : ℕ) → k < from → get_or ys k false ≡ get_or xs k false)
    → ((k : ℕ) → from ≤ k → k < end → get_or ys k false ≡ true)
    → ((k : ℕ) → end ≤ k → get_or ys k false ≡ get_or xs k false)
    → ys ≡ with_run xs from end
is_run xs ys from end order within long low mid high =
    ext_get_or false ys (with_run xs from end) (long ∙ sym (run_long xs from end order within)) (λ k _. elim (cases_lt k from) [
      | inl below ↦ low k below ∙ sym (run_below xs from end order within k below)
      | inr above ↦ elim (cases_lt k end) [
        | inl inside ↦ mid k above inside ∙ sym (run_inside xs from end order within k above inside)
        | inr past ↦ high k past ∙ sym (run_above xs from end order within k past)
      ]
    ])

-- no number yet
pub run_none : (xs : List Bool) (from : ℕ) → from ≤ length xs → xs ≡ with_run xs from from
run_none xs from within =
    is_run xs xs from from (omega arith) within (ap (λ (l : List Bool). length l) (λ i. xs))
    (λ k _ i. get_or xs k false) (λ k above below. absurd (omega arith)) (λ k _ i. get_or xs k false)

-- a run and the one that follows it
pub run_more : (xs ys zs : List Bool) (from at end : ℕ) → from ≤ at → at ≤ end → end ≤ length xs
    → ys ≡ with_run xs from at → zs ≡ with_run ys at end → zs ≡ with_run xs from end
run_more xs ys zs from at end first next within is_first is_next =
    let l : length ys ≡ length xs = ap (λ (l : List Bool). length l) is_first ∙ run_long xs from at first (omega arith) in
    let in_ys : end ≤ length ys = omega arith in
    let value : (k : ℕ) → get_or zs k false ≡ get_or (with_run ys at end) k false = λ k. ap (λ (l : List Bool). get_or l k false) is_next in
    let before : (k : ℕ) → get_or ys k false ≡ get_or (with_run xs from at) k false = λ k. ap (λ (l : List Bool). get_or l k false) is_first in
    is_run xs zs from end (omega arith) within
    (ap (λ (l : List Bool). length l) is_next ∙ run_long ys at end next in_ys ∙ l)
    (λ k below. value k ∙ run_below ys at end next in_ys k (omega arith) ∙ before k
    ∙ run_below xs from at first (omega arith) k below)
    (λ k above below. value k ∙ elim (cases_lt k at) [
      | inl low ↦ run_below ys at end next in_ys k low ∙ before k
          ∙ run_inside xs from at first (omega arith) k above low
      | inr high ↦ run_inside ys at end next in_ys k high below
    ])
    (λ k past. value k ∙ run_above ys at end next in_ys k past ∙ before k
    ∙ run_above xs from at first (omega arith) k (omega arith))

-- the mask of a run in a word
pub run_mask : (lo n : ℕ) → 0 < n → lo + n ≤ 64
    → ((2 ^ 64 - 1) / 2 ^ (64 - n) * 2 ^ lo) % 2 ^ 64 ≡ 2 ^ (lo + n) - 2 ^ lo
run_mask lo n some_ within =
    let rest : 64 - (64 - n) ≡ n = omega arith in
    let ones : (2 ^ 64 - 1) / 2 ^ (64 - n) ≡ 2 ^ n - 1 = ones_shr 64 (64 - n) (omega arith) ∙ ap (λ (k : ℕ). 2 ^ k - 1) rest in
    let shifted : (2 ^ n - 1) * 2 ^ lo ≡ 2 ^ (lo + n) - 2 ^ lo =
    mul_comm (2 ^ n - 1) (2 ^ lo) ∙ mul-sub (2 ^ lo) (2 ^ n) 1
    ∙ (let power = pow-add 2 lo n in omega arith) in
    ap (λ (m : ℕ). (m * 2 ^ lo) % 2 ^ 64) ones
    ∙ shl_whole (2 ^ n - 1) n lo 64 (let p = pow_pos n in omega arith) (omega arith)
    ∙ shifted

-- the bits of a word with a run of them set
module _ (w lo hi : ℕ) where
  word_below : (j : ℕ) → j < lo → bit_at (bit_or w (2 ^ hi - 2 ^ lo)) j ≡ bit_at w j
  word_below j below =
      let both = bit_at_or w (2 ^ hi - 2 ^ lo) j in let off = bit_at_mask_below lo hi j below in
      omega (arith, both, off)

  word_above : (j : ℕ) → hi ≤ j → bit_at (bit_or w (2 ^ hi - 2 ^ lo)) j ≡ bit_at w j
  word_above j above =
      let both = bit_at_or w (2 ^ hi - 2 ^ lo) j in let off = bit_at_mask_above lo hi j above in
      omega (arith, both, off)

  word_inside : (j : ℕ) → lo ≤ j → j < hi → bit_at (bit_or w (2 ^ hi - 2 ^ lo)) j ≡ 1
  word_inside j above below =
      let both = bit_at_or w (2 ^ hi - 2 ^ lo) j in let on = bit_at_mask_inside lo hi j above below in
      let small = bit_at-lt w j in
      omega (arith, both, on, small)

-- the words after a run within one of them is set show the set with the run
pub put_run : (many from end w mask : ℕ) (words : List ℕ) (xs : List Bool) → bits_of many words ≡ xs
    → from < end → end ≤ length xs → end ≤ 64 * (from / 64) + 64 → from / 64 < length words
    → w ≡ get_or words (from / 64) 0 → mask ≡ 2 ^ (from % 64 + (end - from)) - 2 ^ (from % 64)
    → bits_of many (set words (from / 64) (bit_or w mask)) ≡ with_run xs from end
put_run many from end w mask words xs shows some_ below one wide read is_mask =
    let l = length_shown many words in let e : length (bits_of many words) ≡ length xs = ap length shows in
    let lo : ℕ = from % 64 in let hi : ℕ = from % 64 + (end - from) in
    let now : List ℕ = set words (from / 64) (bit_or w mask) in
    let here : (k : ℕ) → k / 64 ≡ from / 64 → bit_of now k ≡ bit_at (bit_or w (2 ^ hi - 2 ^ lo)) (k % 64) = λ k same.
    ap (λ (i : ℕ). bit_at (get_or now i 0) (k % 64)) same
    ∙ ap (λ (z : ℕ). bit_at z (k % 64)) (get_or-set_same words (from / 64) (bit_or w mask) 0 wide)
    ∙ ap (λ (m : ℕ). bit_at (bit_or w m) (k % 64)) is_mask in
    let was : (k : ℕ) → k / 64 ≡ from / 64 → bit_at w (k % 64) ≡ bit_of words k = λ k same.
    ap (λ (z : ℕ). bit_at z (k % 64)) (read ∙ ap (λ (i : ℕ). get_or words i 0) (sym same)) in
    let old : (k : ℕ) → k < many → is_one words k ≡ get_or xs k false = λ k in_many.
    sym (shown_at many words k in_many) ∙ ap (λ (l : List Bool). get_or l k false) shows in
    is_shown many now (with_run xs from end) (run_long xs from end (omega arith) below ∙ sym e ∙ l) (λ k in_many.
    elim (cases_eq (k / 64) (from / 64)) [
      | inl same ↦ elim (cases_lt k from) [
        | inl low ↦ ap (λ (z : ℕ). nat_eq z 1) (here k same ∙ word_below w lo hi (k % 64) (omega arith) ∙ was k same)
            ∙ old k in_many ∙ sym (run_below xs from end (omega arith) below k low)
        | inr above ↦ elim (cases_lt k end) [
          | inl inside ↦ ap (λ (z : ℕ). nat_eq z 1) (here k same ∙ word_inside w lo hi (k % 64) (omega arith) (omega arith))
              ∙ sym (run_inside xs from end (omega arith) below k above inside)
          | inr past ↦ ap (λ (z : ℕ). nat_eq z 1) (here k same ∙ word_above w lo hi (k % 64) (omega arith) ∙ was k same)
              ∙ old k in_many ∙ sym (run_above xs from end (omega arith) below k past)
        ]
      ]
      | inr apart ↦ ap (λ (z : ℕ). nat_eq (bit_at z (k % 64)) 1) (get_or-set_other words (from / 64) (k / 64) (bit_or w mask) 0 apart)
          ∙ old k in_many ∙ elim (cases_lt k from) [
            | inl low ↦ sym (run_below xs from end (omega arith) below k low)
            | inr above ↦ sym (run_above xs from end (omega arith) below k (omega arith))
          ]
    ])
