-- Bits of the words of objects, and how many of them stand below a header.
use Rattle.std.proofs.Common.{◌≡◌, ℕ, zero, suc, ◌+◌, ◌<◌, ◌≤◌, List, [], ◌∷◌, ◌++◌, Bool, true, false, inl, inr, refl, sym, ap, subst, ◌∙◌, arith, length, get_or, take, replicate}
use Rattle.std.specs.List.{sum_by, Any}
use Rattle.std.proofs.lemmas.Bool.{cases_lt, cases_Bool}
use Rattle.std.proofs.lemmas.List.{get_or_default, get_or_past, get_or_push, get_or_append_left, get_or-replicate, length-replicate, length_push, take_more}
use Rattle.std.proofs.lemmas.List.Quantifiers.{Any-push}
use Rattle.bit_sets.specs.Rank.{rank}
use Rattle.bit_sets.specs.Run.{with_run}
use Rattle.bit_sets.proofs.Counting.{rank_zeros, rank_ones}
use Rattle.bit_sets.proofs.Runs.{run_long, run_below, run_inside, run_above}
use Rattle.image_core.specs.Object.{size_at, Fits}
use Rattle.image_slide.specs.Slide.{new_place}
use Rattle.image_slide.specs.LiveWords.{InOrder, IsOfObject, AreLiveWords}
use Rattle.image_slide.proofs.Order.{InOrder-above, InOrder-apart, InOrder-fits, new_place-front, sizes_more}

-- no object yet
pub AreLive-none : (format : ℕ) (words : List ℕ) → AreLiveWords format words [] (replicate (length words) false)
AreLive-none format words =
    let n : ℕ = length words in
    let none : (k : ℕ) → get_or (replicate n false) k false ≡ false = λ k. elim (cases_lt k n) [
      | inl below ↦ get_or-replicate n k false false below
      | inr past ↦ get_or_past (replicate n false) k false (omega (arith, past, length-replicate n false))
    ] in
    record {
      each = length-replicate n false;
      of = λ k. ((λ bit. absurd (let no = none k in cc)), (λ there. absurd (omega (arith, there.2))));
    }

-- something of one more, or of those before
module _ (P : ℕ → Type 0) (xs : List ℕ) (y : ℕ) where
  widen : Any P xs → Any P (xs ++ y ∷ [])
  widen there = (
    there.0,
    there.1,
    omega (arith, there.2, length_push xs y),
    get_or_append_left xs (y ∷ []) there.1 there.0 there.2 ∙ there.3,
    there.4,
  )

  narrow : Any P (xs ++ y ∷ []) → (P y → ⊥) → Any P xs
  narrow there not = elim (cases_lt there.0 (length xs)) [
    | inl old ↦ (there.0, there.1, old, sym (get_or_append_left xs (y ∷ []) there.1 there.0 old) ∙ there.3, there.4)
    | inr new ↦ absurd (
        let last : length xs ≡ there.0 = omega (arith, there.2, new, length_push xs y) in
        let same : there.1 ≡ y = sym there.3 ∙ get_or_push xs y there.1 there.0 last in
        not (subst P same there.4))
  ]

-- one more object
pub AreLive-push : (format : ℕ) (words live : List ℕ) (bits : List Bool) (head : ℕ) → AreLiveWords format words live bits
    → Fits format words head → AreLiveWords format words (live ++ head ∷ []) (with_run bits head (head + size_at format words head))
AreLive-push format words live bits head are fits =
    let end : ℕ = head + size_at format words head in
    let order : head ≤ end = omega arith in
    let within : end ≤ length bits = omega (arith, fits, are.each) in
    let now : List Bool = with_run bits head end in
    let outside : (k : ℕ) → get_or now k false ≡ get_or bits k false → (IsOfObject format words k head → ⊥)
    → (get_or now k false ≡ true → Any (IsOfObject format words k) (live ++ head ∷ []))
    × (Any (IsOfObject format words k) (live ++ head ∷ []) → get_or now k false ≡ true) = λ k same not. (
      λ bit. widen (IsOfObject format words k) live head ((are.of k).0 (sym same ∙ bit)),
      λ there. same ∙ (are.of k).1 (narrow (IsOfObject format words k) live head there not),
    ) in
    record {
      each = run_long bits head end order within ∙ are.each;
      of = λ k. elim (cases_lt k head) [
        | inl low ↦ outside k (run_below bits head end order within k low) (λ of. omega (arith, of.from, low))
        | inr from ↦ elim (cases_lt k end) [
          | inl inside ↦ (
            λ _. Any-push (IsOfObject format words k) live head (record { from = from; to = inside }),
            λ _. run_inside bits head end order within k from inside,
          )
          | inr past ↦ outside k (run_above bits head end order within k past) (λ of. omega (arith, of.to, past))
        ]
      ];
    }

pub AreLive-more : (format : ℕ) (words live : List ℕ) (bits : List Bool) (n : ℕ) → n < length live → Fits format words (get_or live n 0)
    → AreLiveWords format words (take n live) bits
    → AreLiveWords format words (take (n + 1) live) (with_run bits (get_or live n 0) (get_or live n 0 + size_at format words (get_or live n 0)))
AreLive-more format words live bits n below fits are =
    let head : ℕ = get_or live n 0 in
    subst (λ hs. AreLiveWords format words hs (with_run bits head (head + size_at format words head))) (sym (take_more live n 0 below))
    (AreLive-push format words (take n live) bits head are fits)

module _ (format : ℕ) (words live : List ℕ) (bits : List Bool) (order : InOrder format words 0 live) (are : AreLiveWords format words live bits) where
  -- the words of an object have their bits
  word_of : (m k : ℕ) → m < length live → IsOfObject format words k (get_or live m 0) → get_or bits k false ≡ true
  word_of m k below of = (are.of k).1 (m, get_or live m 0, below, get_or_default live m (get_or live m 0) 0 below, of)

  -- and no others
  no_word : (k : ℕ) → ((m : ℕ) → m < length live → IsOfObject format words k (get_or live m 0) → ⊥) → get_or bits k false ≡ false
  no_word k apart = elim (cases_Bool (get_or bits k false)) [
    | inl bit ↦ absurd (
        let there = (are.of k).0 bit in
        let here : get_or live there.0 0 ≡ there.1 = get_or_default live there.0 0 there.1 there.2 ∙ there.3 in
        apart there.0 there.2 (subst (IsOfObject format words k) (sym here) there.4))
    | inr none ↦ none
  ]

  not_below : (m n : ℕ) → m ≤ n → n < length live → get_or live m 0 ≤ get_or live n 0
  not_below m n less below = elim (cases_lt m n) [
    | inl before ↦ (let u = InOrder-above format words 0 live order m n before below in omega arith)
    | inr not ↦ (let same : m ≡ n = omega arith in omega (arith, ap (λ i. get_or live i 0) same))
  ]

  ends_below : (m n : ℕ) → m ≤ n → n < length live
      → get_or live m 0 + size_at format words (get_or live m 0) ≤ get_or live n 0 + size_at format words (get_or live n 0)
  ends_below m n less below = elim (cases_lt m n) [
    | inl before ↦ (let u = InOrder-apart format words 0 live order m n before below in omega arith)
    | inr not ↦ (let same : m ≡ n = omega arith in
        omega (arith, ap (λ i. get_or live i 0 + size_at format words (get_or live i 0)) same))
  ]

  -- below a header there stand as many as the objects before it have
  rank_at : (m : ℕ) → m < length live → rank bits (get_or live m 0) ≡ sum_by (size_at format words) (take m live)
  rank_at zero below =
      let fits = InOrder-fits format words live order 0 below in
      rank_zeros bits 0 (get_or live 0 0) (omega arith) (omega (arith, fits, are.each))
      (λ k _ less. no_word k (λ m there of. (let u = not_below 0 m (omega arith) there in omega (arith, u, of.from, less))))
  rank_at (suc m) below =
      let a : ℕ = get_or live m 0 in let b : ℕ = get_or live (suc m) 0 in let size : ℕ = size_at format words a in
      let apart : a + size ≤ b = InOrder-apart format words 0 live order m (suc m) (omega arith) below in
      let fits = InOrder-fits format words live order (suc m) below in
      let ones = rank_ones bits a (a + size) (omega arith) (omega (arith, apart, fits, are.each))
      (λ k from to. word_of m k (omega arith) (record { from = from; to = to })) in
      let zeros = rank_zeros bits (a + size) b apart (omega (arith, fits, are.each))
      (λ k from to. no_word k (λ n there of. elim (cases_lt n (suc m)) [
        | inl low ↦ (let u = ends_below n m (omega arith) (omega arith) in omega (arith, u, of.to, from))
        | inr high ↦ (let u = not_below (suc m) n (omega arith) there in omega (arith, u, of.from, to))
      ])) in
      let more = sizes_more format words live m (omega arith) in
      let next : m + 1 ≡ suc m = omega arith in
      omega (arith, zeros, ones, rank_at m (omega arith), more, ap (λ i. sum_by (size_at format words) (take i live)) next)

  pub rank_is : (m : ℕ) → m < length live → rank bits (get_or live m 0) ≡ new_place format words live (get_or live m 0)
  rank_is m below = rank_at m below ∙ sym (new_place-front format words live m order below)

  pub bit_is : (m : ℕ) → m < length live → get_or bits (get_or live m 0) false ≡ true
  bit_is m below = word_of m (get_or live m 0) below (record { from = omega arith; to = omega arith })
