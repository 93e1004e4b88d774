-- Objects that stand end to end.
use Rattle.std.proofs.Common.{◌≡◌, ℕ, zero, suc, ◌+◌, ◌<◌, ◌≤◌, List, [], ◌∷◌, ◌++◌, inl, inr, refl, sym, ◌∙◌, arith, get_or, length}
use Rattle.std.proofs.lemmas.Bool.{cases_lt}
use Rattle.image_core.specs.Object.{size_at, Fits}
use Rattle.image_core.specs.Heap.{Stand, Fill}

-- one more object
pub Stand-push : (format : ℕ) (words : List ℕ) (from : ℕ) (heads : List ℕ) (end : ℕ) → Stand format words from heads end → end < length words
    → Stand format words from (heads ++ end ∷ []) (end + size_at format words end)
Stand-push format words from [] end stand below = rw (← stand) (refl, rw stand below, refl)
Stand-push format words from (head ∷ heads) end stand below =
    (stand.0, stand.1, Stand-push format words (from + size_at format words from) heads end stand.2 below)

-- objects go up
pub Stand-up : (format : ℕ) (words : List ℕ) (from : ℕ) (heads : List ℕ) (end : ℕ) → Stand format words from heads end → from + length heads ≤ end
Stand-up format words from [] end stand = omega arith
Stand-up format words from (head ∷ heads) end stand =
    omega (arith, Stand-up format words (from + size_at format words from) heads end stand.2)

-- each header stands where its object fits before the end
pub Stand-at : (format : ℕ) (words : List ℕ) (from : ℕ) (heads : List ℕ) (end : ℕ) → Stand format words from heads end
    → (n : ℕ) → n < length heads
    → (from ≤ get_or heads n 0) × (get_or heads n 0 < length words) × (get_or heads n 0 + size_at format words (get_or heads n 0) ≤ end)
Stand-at format words from [] end stand n below = absurd (omega arith)
Stand-at format words from (head ∷ heads) end stand zero below =
    let up = Stand-up format words (from + size_at format words from) heads end stand.2 in
    rw stand.0 (omega arith, stand.1, omega arith)
Stand-at format words from (head ∷ heads) end stand (suc n) below =
    let at = Stand-at format words (from + size_at format words from) heads end stand.2 n (omega arith) in
    (omega arith, at.1, at.2)

-- each header stands above the objects before it
pub Stand-order : (format : ℕ) (words : List ℕ) (from : ℕ) (heads : List ℕ) (end : ℕ) → Stand format words from heads end
    → (m n : ℕ) → m < n → n < length heads
    → get_or heads m 0 + size_at format words (get_or heads m 0) ≤ get_or heads n 0
Stand-order format words from [] end stand m n less below = absurd (omega arith)
Stand-order format words from (head ∷ heads) end stand m zero less below = absurd (omega arith)
Stand-order format words from (head ∷ heads) end stand zero (suc n) less below =
    let at = Stand-at format words (from + size_at format words from) heads end stand.2 n (omega arith) in
    rw stand.0 at.0
Stand-order format words from (head ∷ heads) end stand (suc m) (suc n) less below =
    Stand-order format words (from + size_at format words from) heads end stand.2 m n (omega arith) (omega arith)

-- the places are determined
pub Stand-same : (format : ℕ) (words : List ℕ) (from : ℕ) (xs ys : List ℕ) (end : ℕ) → Stand format words from xs end → Stand format words from ys end → xs ≡ ys
Stand-same format words from [] [] end s t = refl
Stand-same format words from [] (y ∷ ys) end s t = absurd (omega (arith, Stand-up format words (from + size_at format words from) ys end t.2))
Stand-same format words from (x ∷ xs) [] end s t = absurd (omega (arith, Stand-up format words (from + size_at format words from) xs end s.2))
Stand-same format words from (x ∷ xs) (y ∷ ys) end s t =
    let heads : xs ≡ ys = Stand-same format words (from + size_at format words from) xs ys end s.2 t.2 in
    let head : x ≡ y = s.0 ∙ sym t.0 in
    cc

-- there are no more objects than words
pub Fill-length : (format : ℕ) (words heads : List ℕ) → Fill format words heads → length heads ≤ length words
Fill-length format words heads fill = omega (arith, Stand-up format words 0 heads (length words) fill)

-- an object ends within the words
pub Fill-fits : (format : ℕ) (words heads : List ℕ) → Fill format words heads → (n : ℕ) → n < length heads → Fits format words (get_or heads n 0)
Fill-fits format words heads fill n below = (Stand-at format words 0 heads (length words) fill n below).2

-- no two objects have one header
pub Fill-once : (format : ℕ) (words heads : List ℕ) → Fill format words heads → (m n : ℕ) → m < length heads → n < length heads
    → get_or heads m 0 ≡ get_or heads n 0 → m ≡ n
Fill-once format words heads fill m n within below same = elim (cases_lt m n) [
  | inl less ↦ absurd (omega (arith, Stand-order format words 0 heads (length words) fill m n less below))
  | inr more ↦ elim (cases_lt n m) [
    | inl above ↦ absurd (omega (arith, Stand-order format words 0 heads (length words) fill n m above within))
    | inr equal ↦ omega arith
  ]
]
