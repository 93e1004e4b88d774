-- Bytes have at most one fault: the tests of the header and of the length stand in their order, and the first that fails is told.
use Rattle.std.proofs.Common.{◌≡◌, ℕ, zero, suc, ◌^◌, ◌≤◌, inl, inr, List, refl, sym, ap, subst, ◌∙◌, arith, get_or, length}
use Rattle.std.proofs.lemmas.Bool.{cases_lt}
use Rattle.image_core.specs.Fault.{OnFault, Tells}
use Rattle.image_core.specs.declared.fault.ImageFault.{ImageFault}
use Rattle.image_core.specs.declared.fault.ImageKind.{ImageKind}
use Rattle.image_core.specs.declared.fault.ImageKind.TheVariants.{Short, Magic, TooManyWords, TooManyRoots, Long, Overrun, TooManyObjects, BadRef, BadRoot}
use Rattle.image_core.specs.declared.fault.ReadImage.{ReadImage}
use Rattle.image_core.specs.declared.fault.ReadImage.TheVariants.{Fault, Memory}
use Rattle.image_core.proofs.Once.{fault_once as fault_once-words}
use Rattle.image_reader.specs.Fault.{words_said, roots_said, length_said, HasMagic, HasHeader, IsOtherMagic, SpelledFail, BytesFail, HasFault}
use Rattle.image_reader.proofs.Header.{Spells-header, HasMagic-byte}
use Rattle.image_reader.proofs.Once.{same_spelled}

abbrev fault_of : ImageKind → ℕ → ℕ → ImageFault
fault_of kind place value = record { kind = kind; place = place; value = value }

-- the tests of the header and of the length, in order: what bytes are that pass the first so many
abbrev Passes : List ℕ → ℕ → Type 0
Passes bytes zero = Unit {0}
Passes bytes (suc zero) = 24 ≤ length bytes
Passes bytes (suc (suc zero)) = HasMagic bytes
Passes bytes (suc (suc (suc zero))) = HasMagic bytes × (words_said bytes ≤ 2 ^ 22)
Passes bytes (suc (suc (suc (suc zero)))) = HasHeader bytes
Passes bytes (suc (suc (suc (suc (suc zero))))) = HasHeader bytes × (length_said bytes ≤ length bytes)
Passes bytes (suc (suc (suc (suc (suc (suc zero)))))) = HasHeader bytes × (length bytes ≡ length_said bytes)
Passes bytes (suc (suc (suc (suc (suc (suc (suc n))))))) = ⊥

-- what is told of bytes that pass so many of these tests, and not the next
abbrev Told : List ℕ → ℕ → ImageKind → ℕ → ℕ → Type 0
Told bytes zero kind place value = fault_of kind place value ≡ fault_of Short (length bytes) 24
Told bytes (suc zero) kind place value = (kind ≡ Magic) × IsOtherMagic bytes place × (value ≡ get_or bytes place 0)
Told bytes (suc (suc zero)) kind place value = fault_of kind place value ≡ fault_of TooManyWords 8 (words_said bytes)
Told bytes (suc (suc (suc zero))) kind place value = fault_of kind place value ≡ fault_of TooManyRoots 16 (roots_said bytes)
Told bytes (suc (suc (suc (suc zero)))) kind place value = fault_of kind place value ≡ fault_of Short (length bytes) (length_said bytes)
Told bytes (suc (suc (suc (suc (suc zero))))) kind place value =
    fault_of kind place value ≡ fault_of Long (length_said bytes) (get_or bytes (length_said bytes) 0)
Told bytes (suc (suc (suc (suc (suc (suc n)))))) kind place value = SpelledFail bytes kind place value

fault_is : (kind : ImageKind) (p v q w : ℕ) → p ≡ q → v ≡ w → fault_of kind p v ≡ fault_of kind q w
fault_is kind p v q w at is = cc

-- bytes that pass a test pass the one before it
module _ (bytes : List ℕ) where
  passes_before : (n : ℕ) → Passes bytes (suc n) → Passes bytes n
  passes_before zero passes = tt
  passes_before (suc zero) passes = passes.long_enough
  passes_before (suc (suc zero)) passes = passes.0
  passes_before (suc (suc (suc zero))) passes = (passes.begins, passes.few_words)
  passes_before (suc (suc (suc (suc zero)))) passes = passes.0
  passes_before (suc (suc (suc (suc (suc zero))))) passes = (passes.0, omega (arith, passes.1))
  passes_before (suc (suc (suc (suc (suc (suc n)))))) passes = absurd passes

  passes_down : (m n : ℕ) → m ≤ n → Passes bytes n → Passes bytes m
  passes_down m zero most passes = let none : zero ≡ m = omega (arith, most) in subst (Passes bytes) none passes
  passes_down m (suc n) most passes = elim (cases_lt n m) [
    | inl last ↦ let same : suc n ≡ m = omega (arith, most, last) in subst (Passes bytes) same passes
    | inr more ↦ passes_down m n (omega (arith, more)) (passes_before n passes)
  ]

  -- how many tests bytes pass that have a fault
  record Stage (kind : ImageKind) (place value : ℕ) : Type 0 where
    count : ℕ
    passes : Passes bytes count
    fails : ¬ Passes bytes (suc count)
    told : Told bytes count kind place value

  spelled_stage : (kind : ImageKind) (place value : ℕ) → SpelledFail bytes kind place value → Stage kind place value
  spelled_stage kind place value fails = record {
    count = 6;
    passes = Spells-header bytes fails.0 fails.1 fails.2 fails.3;
    fails = λ none. none;
    told = fails;
  }

  stage : (kind : ImageKind) (place value : ℕ) → BytesFail bytes kind place value → Stage kind place value
  stage Short place value (at, inl fails) = record {
    count = 0;
    passes = tt;
    fails = λ passes. omega (arith, passes, fails.0);
    told = fault_is Short place value (length bytes) 24 at fails.1;
  }
  stage Short place value (at, inr fails) = record {
    count = 4;
    passes = fails.0;
    fails = λ passes. omega (arith, passes.1, fails.1);
    told = fault_is Short place value (length bytes) (length_said bytes) at fails.2;
  }
  stage Magic place value (long_enough, other, is) = record {
    count = 1;
    passes = long_enough;
    fails = λ passes. other.differs (HasMagic-byte bytes place passes other.within);
    told = (refl, other, is);
  }
  stage TooManyWords place value fails = record {
    count = 2;
    passes = fails.0;
    fails = λ passes. omega (arith, passes.1, fails.1);
    told = fault_is TooManyWords place value 8 (words_said bytes) fails.2 fails.3;
  }
  stage TooManyRoots place value fails = record {
    count = 3;
    passes = (fails.0, fails.1);
    fails = λ passes. omega (arith, passes.few_roots, fails.2);
    told = fault_is TooManyRoots place value 16 (roots_said bytes) fails.3 fails.4;
  }
  stage Long place value fails = record {
    count = 5;
    passes = (fails.0, omega (arith, fails.1));
    fails = λ passes. omega (arith, passes.1, fails.1);
    told = fault_is Long place value (length_said bytes) (get_or bytes (length_said bytes) 0) fails.2 (fails.3 ∙ ap (λ n. get_or bytes n 0) fails.2);
  }
  stage Overrun place value fails = spelled_stage Overrun place value fails
  stage TooManyObjects place value fails = spelled_stage TooManyObjects place value fails
  stage BadRef place value fails = spelled_stage BadRef place value fails
  stage BadRoot place value fails = spelled_stage BadRoot place value fails

  -- there is one first byte that is not that of a magic
  other_magic_once : (place other : ℕ) → IsOtherMagic bytes place → IsOtherMagic bytes other → place ≡ other
  other_magic_once place other a b = elim (cases_lt place other) [
    | inl below ↦ absurd (a.differs (b.first place below))
    | inr most ↦ elim (cases_lt other place) [
      | inl above ↦ absurd (b.differs (a.first other above))
      | inr least ↦ omega (arith, most, least)
    ]
  ]

  -- of bytes that pass so many tests one fault is told
  told_same : (n : ℕ) (kind other : ImageKind) (p v q w : ℕ) → Told bytes n kind p v → Told bytes n other q w → fault_of kind p v ≡ fault_of other q w
  told_same zero kind other p v q w a b = a ∙ sym b
  told_same (suc zero) kind other p v q w a b =
      let at : p ≡ q = other_magic_once p q a.1 b.1 in
      ap (λ k. fault_of k p v) (a.0 ∙ sym b.0) ∙ fault_is other p v q w at (a.2 ∙ ap (λ n. get_or bytes n 0) at ∙ sym b.2)
  told_same (suc (suc zero)) kind other p v q w a b = a ∙ sym b
  told_same (suc (suc (suc zero))) kind other p v q w a b = a ∙ sym b
  told_same (suc (suc (suc (suc zero)))) kind other p v q w a b = a ∙ sym b
  told_same (suc (suc (suc (suc (suc zero))))) kind other p v q w a b = a ∙ sym b
  told_same (suc (suc (suc (suc (suc (suc n)))))) kind other p v q w a (format, words, roots, spells, fails) =
      fault_once-words format words roots (fault_of kind p v) (fault_of other q w) (same_spelled bytes format words roots spells kind p v a) fails

  -- bytes have at most one fault
  pub fault_once : (a b : ImageFault) → HasFault bytes a → HasFault bytes b → a ≡ b
  fault_once a b this that =
      let s = stage a.kind a.place a.value this in
      let t = stage b.kind b.place b.value that in
      elim (cases_lt s.count t.count) [
        | inl less ↦ absurd (s.fails (passes_down (suc s.count) t.count (omega (arith, less)) t.passes))
        | inr most ↦ elim (cases_lt t.count s.count) [
          | inl more ↦ absurd (t.fails (passes_down (suc t.count) s.count (omega (arith, more)) s.passes))
          | inr least ↦
              let same : s.count ≡ t.count = omega (arith, most, least) in
              told_same t.count a.kind b.kind a.place a.value b.place b.value (subst (λ n. Told bytes n a.kind a.place a.value) same s.told) t.told
        ]
      ]

  -- a refusal tells the fault that bytes have
  pub told_once : (fault : ImageFault) (refusal : ReadImage) → HasFault bytes fault → OnFault refusal (HasFault bytes) → Tells fault refusal
  told_once fault Memory this that = inl refl
  told_once fault (Fault other) this that = inr (ap Fault (fault_once other fault that this))
