-- Words that fail a test, and the first reference or weak word that does.
use Rattle.std.proofs.Common.{◌≡◌, ℕ, ◌+◌, ◌-◌, ◌<◌, List, inl, inr, sym, ap, subst, ◌∙◌, arith, get_or, length}
use Rattle.std.proofs.lemmas.List.{get_or_default}
use Rattle.std.proofs.lemmas.Bool.{cases_lt}
use Rattle.std.specs.List.{All}
use Rattle.image_core.specs.Object.{names_at, naming_at}
use Rattle.image_core.specs.Heap.{Fill, Names, EachReferenceNames}
use Rattle.image_core.specs.Fault.{IsReference, IsFirstUnnamed, IsBadReference}
use Rattle.image_core.proofs.Standing.{Fill-fits, Stand-order}
use Rattle.image_core.proofs.Parts.{length-naming, get_or-naming}

-- a reference or weak word stands behind the header of an object of some number
pub reference_place : (format : ℕ) (words heads : List ℕ) (place : ℕ) → IsReference format words heads place
    → (object : ℕ) × (k : ℕ) × (object < length heads) × (k < names_at format words (get_or heads object 0)) × (place ≡ get_or heads object 0 + 1 + k)
reference_place format words heads place (head, (object, within, at), low, high) =
    let is : get_or heads object 0 ≡ head = get_or_default heads object 0 head within ∙ at in
    (object, place - (head + 1), within, omega (arith, ap (λ h. names_at format words h) is), omega arith)

pub IsReference-place : (format : ℕ) (words heads : List ℕ) (object k : ℕ) → object < length heads → k < names_at format words (get_or heads object 0)
    → IsReference format words heads (get_or heads object 0 + 1 + k)
IsReference-place format words heads object k within below =
    (get_or heads object 0, (object, within, get_or_default heads object (get_or heads object 0) 0 within), omega arith, omega arith)

module _ (format : ℕ) (words heads : List ℕ) (fill : Fill format words heads) where
  -- the first bad reference or weak word of an object, where those before have none
  pub bad_reference_of : (object k : ℕ) → object < length heads
      → ((earlier : ℕ) → earlier < object → All (Names heads) (naming_at format words (get_or heads earlier 0)))
      → IsFirstUnnamed (naming_at format words (get_or heads object 0)) heads k
      → IsBadReference format words heads (get_or heads object 0 + 1 + k)
  bad_reference_of object k within before bad =
      let head : ℕ = get_or heads object 0 in
      let below : k < names_at format words head = omega (arith, bad.within, length-naming format words head (Fill-fits format words heads fill object within)) in
      record {
        reference = IsReference-place format words heads object k within below;
        unnamed = λ names. bad.unnamed (subst (Names heads) (sym (get_or-naming format words head k below)) names);
        first = λ earlier less reference.
            let at = reference_place format words heads earlier reference in
            let front : ℕ = get_or heads at.0 0 in
            let word : get_or (naming_at format words front) at.1 0 ≡ get_or words earlier 0 =
            get_or-naming format words front at.1 at.3 ∙ ap (λ n. get_or words n 0) (sym at.4) in
            subst (Names heads) word (elim (cases_lt at.0 object) [
              | inl old ↦
                  before at.0 old at.1 0 (omega (arith, at.3, length-naming format words front (Fill-fits format words heads fill at.0 at.2)))
              | inr more ↦ elim (cases_lt object at.0) [
                | inl above ↦ absurd (omega (arith, at.4, less, below, Stand-order format words 0 heads (length words) fill object at.0 above at.2))
                | inr same ↦
                    let is : at.0 ≡ object = omega arith in
                    subst (λ o. Names heads (get_or (naming_at format words (get_or heads o 0)) at.1 0)) (sym is)
                    (bad.first at.1 (omega (arith, at.4, less, ap (λ o. get_or heads o 0) is)))
              ]
            ]);
      }

  -- a reference or weak word of an object names something
  pub Names-reference : EachReferenceNames format words heads → (object k : ℕ) → object < length heads → k < names_at format words (get_or heads object 0)
      → Names heads (get_or (naming_at format words (get_or heads object 0)) k 0)
  Names-reference each object k within below =
      each object 0 within k 0 (omega (arith, length-naming format words (get_or heads object 0) (Fill-fits format words heads fill object within)))
