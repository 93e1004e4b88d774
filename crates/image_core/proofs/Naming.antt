-- Words that name headers.
use Rattle.std.proofs.Common.{◌≡◌, ℕ, ◌+◌, ◌<◌, ◌≤◌, ◌⊎◌, inl, inr, List, ap, sym, ◌∙◌, arith, get_or, length}
use Rattle.std.proofs.lemmas.List.{get_or_default}
use Rattle.image_core.specs.Heap.{Fill, Names}
use Rattle.image_core.proofs.Standing.{Fill-fits}

-- a word that names the header of an object
pub Names-head : (heads : List ℕ) (word object : ℕ) → object < length heads → word ≡ 1 + get_or heads object 0 → Names heads word
Names-head heads word object below is =
    inr (object, get_or heads object 0, below, get_or_default heads object (get_or heads object 0) 0 below, is)

-- the object that a word names, if it is not 0
pub named : (heads : List ℕ) (word : ℕ) → Names heads word → (word ≡ 0) ⊎ ((object : ℕ) × (object < length heads) × (word ≡ 1 + get_or heads object 0))
named heads word (inl none_) = inl none_
named heads word (inr (object, head, below, at, is)) =
    inr (object, below, is ∙ ap (λ h. 1 + h) (sym at ∙ get_or_default heads object head 0 below))

-- a word that names a header is at most the number of words
pub Names-within : (format : ℕ) (words heads : List ℕ) (word : ℕ) → Fill format words heads → Names heads word → word ≤ length words
Names-within format words heads word fill names = elim (named heads word names) [
  | inl none_ ↦ omega (arith, none_)
  | inr there ↦ omega (arith, there.2, Fill-fits format words heads fill there.0 there.1)
]
