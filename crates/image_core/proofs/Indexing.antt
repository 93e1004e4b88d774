-- The index from places to objects.
use Rattle.std.proofs.Common.{◌≡◌, ◌≢◌, ℕ, zero, suc, ◌+◌, ◌-◌, ◌<◌, ◌≤◌, List, [], ◌∷◌, ◌++◌, Bool, true, false, inl, inr, refl, sym, ap, subst, ◌∙◌, arith, get_or, take, set, replicate, length}
use Rattle.std.proofs.lemmas.List.{get_or-set_same, get_or-set_other, get_or_past, get_or_default, get_or-replicate, length-replicate, take_more}
use Rattle.std.proofs.lemmas.List.Elements.{Contains-get_or, Contains-push, Contains-push_cases, Contains-append_left}
use Rattle.std.proofs.lemmas.Bool.{cases_lt, cases_eq, cases_Bool}
use Rattle.std.specs.List.{Contains}
use Rattle.bit_sets.specs.Rank.{rank}
use Rattle.bit_sets.proofs.Counting.{rank_zeros, rank_ones}
use Rattle.image_core.specs.Heap.{Fill, Names}
use Rattle.image_core.specs.Index.{AreHeads, IsIndex}
use Rattle.image_core.proofs.Standing.{Stand-order, Fill-fits}
use Rattle.image_core.proofs.Naming.{Names-head, named}

no_bit : (n place : ℕ) → get_or (replicate n false) place false ≡ false
no_bit n place = elim (cases_lt place n) [
  | inl below ↦ get_or-replicate n place false false below
  | inr past ↦ get_or_past (replicate n false) place false (omega (arith, past, length-replicate n false))
]

-- no headers yet
pub AreHeads-none : (n : ℕ) → AreHeads [] (replicate n false)
AreHeads-none n place =
    let none = no_bit n place in
    (λ bit. absurd cc, λ there. absurd (omega (arith, there.1)))

-- one more header
pub AreHeads-push : (heads : List ℕ) (bits : List Bool) (at : ℕ) → AreHeads heads bits → at < length bits
    → AreHeads (heads ++ at ∷ []) (set bits at true)
AreHeads-push heads bits at are within place = elim (cases_eq place at) [
  | inl same ↦ (
    λ _. subst (Contains (heads ++ at ∷ [])) (sym same) (Contains-push heads at),
    λ _. ap (λ i. get_or (set bits at true) i false) same ∙ get_or-set_same bits at true false within,
  )
  | inr other ↦
      let kept : get_or (set bits at true) place false ≡ get_or bits place false = get_or-set_other bits at place true false other in (
        λ bit. Contains-append_left heads (at ∷ []) place ((are place).0 (sym kept ∙ bit)),
        λ there. elim (Contains-push_cases heads at place there) [
          | inl old ↦ kept ∙ (are place).1 old
          | inr new ↦ absurd (other (sym new))
        ],
      )
]

-- one more of the objects that fill the words
pub AreHeads-more : (format : ℕ) (words heads : List ℕ) (bits : List Bool) (object : ℕ) → Fill format words heads
    → object < length heads → length bits ≡ length words → AreHeads (take object heads) bits
    → AreHeads (take (object + 1) heads) (set bits (get_or heads object 0) true)
AreHeads-more format words heads bits object fill below long are =
    subst (λ hs. AreHeads hs (set bits (get_or heads object 0) true)) (sym (take_more heads object 0 below))
    (AreHeads-push (take object heads) bits (get_or heads object 0) are
    (omega (arith, long, Fill-fits format words heads fill object below)))

-- Of headers that stand in order: how many bits stand below a header is how many headers stand before it.
module _ (heads : List ℕ) (bits : List Bool) (are : AreHeads heads bits)
    (up : (m n : ℕ) → m < n → n < length heads → get_or heads m 0 < get_or heads n 0)
    (within : (n : ℕ) → n < length heads → get_or heads n 0 < length bits) where
  not_below : (m n : ℕ) → m ≤ n → n < length heads → get_or heads m 0 ≤ get_or heads n 0
  not_below m n less below = elim (cases_lt m n) [
    | inl before ↦ (let u = up m n before below in omega arith)
    | inr not ↦ (let same : m ≡ n = omega arith in omega (arith, ap (λ i. get_or heads i 0) same))
  ]

  bit_of_head : (n : ℕ) → n < length heads → get_or bits (get_or heads n 0) false ≡ true
  bit_of_head n below = (are (get_or heads n 0)).1 (Contains-get_or heads n 0 below)

  no_head : (place : ℕ) → ((n : ℕ) → n < length heads → get_or heads n 0 ≢ place) → get_or bits place false ≡ false
  no_head place apart = elim (cases_Bool (get_or bits place false)) [
    | inl bit ↦ absurd (let there = (are place).0 bit in
        apart there.0 there.1 (get_or_default heads there.0 0 place there.1 ∙ there.2))
    | inr none ↦ none
  ]

  rank_of_head : (n : ℕ) → n < length heads → rank bits (get_or heads n 0) ≡ n
  rank_of_head zero below =
      rank_zeros bits 0 (get_or heads 0 0) (omega arith) (let w = within 0 below in omega arith)
      (λ k _ less. no_head k (λ m there same. (let u = not_below 0 m (omega arith) there in omega (arith, u, same, less))))
  rank_of_head (suc n) below =
      let a : ℕ = get_or heads n 0 in let b : ℕ = get_or heads (suc n) 0 in
      let above : a < b = up n (suc n) (omega arith) below in
      let there : b < length bits = within (suc n) below in
      let one = rank_ones bits a (a + 1) (omega arith) (omega arith)
      (λ k from to. (let same : a ≡ k = omega arith in
      ap (λ i. get_or bits i false) (sym same) ∙ bit_of_head n (omega arith))) in
      let rest = rank_zeros bits (a + 1) b (omega arith) (omega arith)
      (λ k from to. no_head k (λ m known same. elim (cases_lt m (suc n)) [
        | inl low ↦ (let u = not_below m n (omega arith) (omega arith) in omega (arith, u, same, from))
        | inr high ↦ (let u = not_below (suc n) m (omega arith) known in omega (arith, u, same, to))
      ])) in
      omega (arith, rest, one, rank_of_head n (omega arith))

  pub in_order : IsIndex heads bits
  in_order = record {
    entry = λ place object. (
      λ known.
          let is = (are place).0 known.0 in
          let here : get_or heads is.0 0 ≡ place = get_or_default heads is.0 0 place is.1 ∙ is.2 in
          let same : is.0 ≡ object = sym (rank_of_head is.0 is.1) ∙ ap (rank bits) here ∙ known.1 in
          (omega (arith, is.1, same), ap (λ o. get_or heads o 0) (sym same) ∙ here),
      λ there. (
        ap (λ p. get_or bits p false) (sym there.1) ∙ bit_of_head object there.0,
        ap (rank bits) (sym there.1) ∙ rank_of_head object there.0,
      ),
    );
  }

-- the index of objects that fill the words
pub IsIndex-fill : (format : ℕ) (words heads : List ℕ) (bits : List Bool) → Fill format words heads
    → length bits ≡ length words → AreHeads heads bits → IsIndex heads bits
IsIndex-fill format words heads bits fill long are =
    in_order heads bits are
    (λ m n less below. (let o = Stand-order format words 0 heads (length words) fill m n less below in omega (arith, o)))
    (λ n below. (let f = Fill-fits format words heads fill n below in omega (arith, f, long)))

-- a place with its bit is within the index
pub bit_within : (bits : List Bool) (place : ℕ) → get_or bits place false ≡ true → place < length bits
bit_within bits place bit = elim (cases_lt place (length bits)) [
  | inl below ↦ below
  | inr past ↦ absurd (let none = get_or_past bits place false past in cc)
]

module _ (heads : List ℕ) (bits : List Bool) (word : ℕ) (index : IsIndex heads bits) (some_ : 0 < word) where
  -- the object of a place with its bit
  pub bit_names : get_or bits (word - 1) false ≡ true
      → (rank bits (word - 1) < length heads) × (word ≡ 1 + get_or heads (rank bits (word - 1)) 0)
  bit_names bit =
      let there = (index.entry (word - 1) (rank bits (word - 1))).0 (bit, refl) in
      (there.0, omega (arith, there.1, some_))

  pub Names-bit : get_or bits (word - 1) false ≡ true → Names heads word
  Names-bit bit =
      let there = bit_names bit in
      Names-head heads word (rank bits (word - 1)) there.0 there.1

  pub bit-Names : Names heads word → get_or bits (word - 1) false ≡ true
  bit-Names names = elim (named heads word names) [
    | inl none_ ↦ absurd (omega (arith, none_, some_))
    | inr there ↦ ((index.entry (word - 1) there.0).1 (there.1, omega (arith, there.2))).0
  ]

-- what a bit says of a word, and a word of its bit
pub ruleset naming = (Names-bit, bit-Names, bit_names, bit_within)
