-- Words and roots are of at most one image, or have a fault, but not both.
use Rattle.std.proofs.Common.{◌≡◌, ℕ, ◌+◌, ◌<◌, ◌^◌, List, [], ◌∷◌, inl, inr, refl, sym, ap, subst, ◌∙◌, arith, get_or, length}
use Rattle.std.proofs.lemmas.Bool.{cases_lt}
use Rattle.image_core.specs.Object.{size_at, naming_at}
use Rattle.image_core.specs.Heap.{Heap, Stand, Fill, Names, EachReferenceNames, IsLawful, IsHeapOf}
use Rattle.image_core.specs.Fault.{Overruns, IsBadReference, IsFirstUnnamed, WordsFail, HasFault, OnFault, Tells}
use Rattle.image_core.specs.declared.fault.ImageFault.{ImageFault}
use Rattle.image_core.specs.declared.fault.ReadImage.{ReadImage}
use Rattle.image_core.specs.declared.fault.ReadImage.TheVariants.{Fault, Memory}
use Rattle.image_core.specs.declared.fault.ImageKind.{ImageKind}
use Rattle.image_core.specs.declared.fault.ImageKind.TheVariants.{Short, Magic, TooManyWords, TooManyRoots, Long, Overrun, TooManyObjects, BadRef, BadRoot}
use Rattle.image_core.proofs.Standing.{Stand-up, Stand-same}
use Rattle.image_core.proofs.Faults.{reference_place, Names-reference}
use Rattle.image_core.proofs.Parts.{get_or-naming}

-- an object that overruns is no object of an image
overrun_none : (format : ℕ) (words : List ℕ) (from : ℕ) (xs ys : List ℕ) (place : ℕ) → Stand format words from xs place → place < length words
    → length words < place + size_at format words place → Stand format words from ys (length words) → ⊥
overrun_none format words from [] [] place s below over t = omega arith
overrun_none format words from [] (y ∷ ys) place s below over t =
    omega (arith, Stand-up format words (from + size_at format words from) ys (length words) t.2, ap (λ p. size_at format words p) s)
overrun_none format words from (x ∷ xs) [] place s below over t = omega (arith, s.1)
overrun_none format words from (x ∷ xs) (y ∷ ys) place s below over t =
    overrun_none format words (from + size_at format words from) xs ys place s.2 below over t.2

-- a lawful heap has no bad reference word
bad_reference_none : (format : ℕ) (words heads : List ℕ) (place : ℕ) → Fill format words heads → EachReferenceNames format words heads → IsBadReference format words heads place → ⊥
bad_reference_none format words heads place fill each bad =
    let at = reference_place format words heads place bad.reference in
    let word : get_or (naming_at format words (get_or heads at.0 0)) at.1 0 ≡ get_or words place 0 =
    get_or-naming format words (get_or heads at.0 0) at.1 at.3 ∙ ap (λ n. get_or words n 0) (sym at.4) in
    bad.unnamed (subst (Names heads) word (Names-reference format words heads fill each at.0 at.1 at.2 at.3))

pub lawful_no_fault : (heap : Heap) (kind : ImageKind) (place value : ℕ) → IsLawful heap → WordsFail heap.format heap.words heap.roots kind place value → ⊥
lawful_no_fault heap Overrun place value lawful ((heads, stand, below, over), is) =
    overrun_none heap.format heap.words 0 heads heap.heads place stand below over lawful.fill
lawful_no_fault heap TooManyObjects place value lawful (heads, fill, many, at, is) =
    omega (arith, lawful.few_objects, ap length (Stand-same heap.format heap.words 0 heads heap.heads (length heap.words) fill lawful.fill))
lawful_no_fault heap BadRef place value lawful (heads, fill, few, bad, is) =
    let same : heads ≡ heap.heads = Stand-same heap.format heap.words 0 heads heap.heads (length heap.words) fill lawful.fill in
    bad_reference_none heap.format heap.words heap.heads place lawful.fill lawful.references (subst (λ hs. IsBadReference heap.format heap.words hs place) same bad)
lawful_no_fault heap BadRoot place value lawful (heads, fill, few, each, bad, is) =
    let same : heads ≡ heap.heads = Stand-same heap.format heap.words 0 heads heap.heads (length heap.words) fill lawful.fill in
    let here : IsFirstUnnamed heap.roots heap.heads place = subst (λ hs. IsFirstUnnamed heap.roots hs place) same bad in
    here.unnamed (lawful.roots place 0 here.within)
lawful_no_fault heap Short place value lawful fails = fails
lawful_no_fault heap Magic place value lawful fails = fails
lawful_no_fault heap TooManyWords place value lawful fails = fails
lawful_no_fault heap TooManyRoots place value lawful fails = fails
lawful_no_fault heap Long place value lawful fails = fails

-- words and roots of a lawful heap have no fault
pub no_fault : (format : ℕ) (words roots : List ℕ) (heap : Heap) (fault : ImageFault) → IsHeapOf format words roots heap → HasFault format words roots fault → ⊥
no_fault format words roots heap fault is fails =
    lawful_no_fault heap fault.kind fault.place fault.value is.lawful
    (subst (λ f. HasFault f heap.words heap.roots fault) (sym is.format_is)
    (subst (λ ws. HasFault format ws heap.roots fault) (sym is.words_are)
    (subst (λ rs. HasFault format words rs fault) (sym is.roots_are) fails)))

-- and are of that heap alone
pub same_heap : (format : ℕ) (words roots : List ℕ) (a b : Heap) → IsHeapOf format words roots a → IsHeapOf format words roots b → a ≡ b
same_heap format words roots a b this that =
    let fill : Fill format words a.heads =
    subst (λ f. Fill f words a.heads) this.format_is (subst (λ ws. Fill a.format ws a.heads) this.words_are this.lawful.fill) in
    let other : Fill format words b.heads =
    subst (λ f. Fill f words b.heads) that.format_is (subst (λ ws. Fill b.format ws b.heads) that.words_are that.lawful.fill) in
    let heads : a.heads ≡ b.heads = Stand-same format words 0 a.heads b.heads (length words) fill other in
    let e : ℕ → Heap = λ f. record { format = f; words = a.words; roots = a.roots; heads = a.heads } in
    let f : List ℕ → Heap = λ w. record { format = b.format; words = w; roots = a.roots; heads = a.heads } in
    let g : List ℕ → Heap = λ r. record { format = b.format; words = b.words; roots = r; heads = a.heads } in
    let h : List ℕ → Heap = λ p. record { format = b.format; words = b.words; roots = b.roots; heads = p } in
    ap e (this.format_is ∙ sym that.format_is) ∙ ap f (this.words_are ∙ sym that.words_are)
    ∙ ap g (this.roots_are ∙ sym that.roots_are) ∙ ap h heads

-- a walk comes to one overrun
overrun_once : (format : ℕ) (words : List ℕ) (from : ℕ) (xs ys : List ℕ) (place other : ℕ) → Stand format words from xs place → Stand format words from ys other
    → place < length words → length words < place + size_at format words place → other < length words → length words < other + size_at format words other
    → place ≡ other
overrun_once format words from [] [] place other s t within over within_ over_ = sym s ∙ t
overrun_once format words from [] (y ∷ ys) place other s t within over within_ over_ =
    absurd (omega (arith, Stand-up format words (from + size_at format words from) ys other t.2, ap (λ p. size_at format words p) s, within_, over, s))
overrun_once format words from (x ∷ xs) [] place other s t within over within_ over_ =
    absurd (omega (arith, Stand-up format words (from + size_at format words from) xs place s.2, ap (λ p. size_at format words p) t, within, over_, t))
overrun_once format words from (x ∷ xs) (y ∷ ys) place other s t within over within_ over_ =
    overrun_once format words (from + size_at format words from) xs ys place other s.2 t.2 within over within_ over_

-- there is one first bad reference word, and one first word that names nothing
bad_reference_once : (format : ℕ) (words heads : List ℕ) (place other : ℕ) → IsBadReference format words heads place → IsBadReference format words heads other → place ≡ other
bad_reference_once format words heads place other a b = elim (cases_lt place other) [
  | inl below ↦ absurd (a.unnamed (b.first place below a.reference))
  | inr most ↦ elim (cases_lt other place) [
    | inl above ↦ absurd (b.unnamed (a.first other above b.reference))
    | inr least ↦ omega (arith, most, least)
  ]
]

unnamed_once : (words heads : List ℕ) (place other : ℕ) → IsFirstUnnamed words heads place → IsFirstUnnamed words heads other → place ≡ other
unnamed_once words heads place other a b = elim (cases_lt place other) [
  | inl below ↦ absurd (a.unnamed (b.first place below))
  | inr most ↦ elim (cases_lt other place) [
    | inl above ↦ absurd (b.unnamed (a.first other above))
    | inr least ↦ omega (arith, most, least)
  ]
]

-- the headers of objects that fill the words are the same
module _ (format : ℕ) (words : List ℕ) (xs ys : List ℕ) (this : Fill format words xs) (that : Fill format words ys) where
  filled_same : ys ≡ xs
  filled_same = Stand-same format words 0 ys xs (length words) that this

  filled_length : length xs ≡ length ys
  filled_length = ap length (sym filled_same)

  refers_once : (place other : ℕ) → IsBadReference format words xs place → IsBadReference format words ys other → place ≡ other
  refers_once place other a b = bad_reference_once format words xs place other a (subst (λ hs. IsBadReference format words hs other) filled_same b)

  refers_none : (place : ℕ) → EachReferenceNames format words xs → IsBadReference format words ys place → ⊥
  refers_none place each b = bad_reference_none format words xs place this each (subst (λ hs. IsBadReference format words hs place) filled_same b)

  roots_once : (roots : List ℕ) (place other : ℕ) → IsFirstUnnamed roots xs place → IsFirstUnnamed roots ys other → place ≡ other
  roots_once roots place other a b = unnamed_once roots xs place other a (subst (λ hs. IsFirstUnnamed roots hs other) filled_same b)

fault_is : (kind : ImageKind) (place other value value_ : ℕ) → place ≡ other → value ≡ value_
    → ◌≡◌ {A = ImageFault} (record { kind = kind; place = place; value = value }) (record { kind = kind; place = other; value = value_ })
fault_is kind place other value value_ at is = cc

-- a fault of one kind excludes those of the other kinds
module _ (format : ℕ) (words roots : List ℕ) where
  overrun_fills : (place : ℕ) → Overruns format words place → (heads : List ℕ) → Fill format words heads → ⊥
  overrun_fills place (xs, stand, below, over) heads fill = overrun_none format words 0 xs heads place stand below over fill

  same_fault : (kind other : ImageKind) (p v q w : ℕ) → WordsFail format words roots kind p v → WordsFail format words roots other q w
      → ◌≡◌ {A = ImageFault} (record { kind = kind; place = p; value = v }) (record { kind = other; place = q; value = w })
  same_fault Overrun Overrun p v q w ((xs, s, m, o), is) ((ys, t, n, u), are) =
      let at : p ≡ q = overrun_once format words 0 xs ys p q s t m o n u in
      fault_is Overrun p q v w at (is ∙ ap (λ i. get_or words i 0) at ∙ sym are)
  same_fault Overrun TooManyObjects p v q w a b = absurd (overrun_fills p a.0 b.0 b.1)
  same_fault Overrun BadRef p v q w a b = absurd (overrun_fills p a.0 b.0 b.1)
  same_fault Overrun BadRoot p v q w a b = absurd (overrun_fills p a.0 b.0 b.1)
  same_fault TooManyObjects Overrun p v q w a b = absurd (overrun_fills q b.0 a.0 a.1)
  same_fault TooManyObjects TooManyObjects p v q w (xs, f, many, at, is) (ys, g, more, there, are) =
      let here : p ≡ q = at ∙ ap (λ hs. get_or hs (2 ^ 20) 0) (sym (filled_same format words xs ys f g)) ∙ sym there in
      fault_is TooManyObjects p q v w here (is ∙ ap (λ i. get_or words i 0) here ∙ sym are)
  same_fault TooManyObjects BadRef p v q w a b = absurd (omega (arith, a.2, b.2, filled_length format words a.0 b.0 a.1 b.1))
  same_fault TooManyObjects BadRoot p v q w a b = absurd (omega (arith, a.2, b.2, filled_length format words a.0 b.0 a.1 b.1))
  same_fault BadRef Overrun p v q w a b = absurd (overrun_fills q b.0 a.0 a.1)
  same_fault BadRef TooManyObjects p v q w a b = absurd (omega (arith, a.2, b.2, filled_length format words a.0 b.0 a.1 b.1))
  same_fault BadRef BadRef p v q w (xs, f, few, bad, is) (ys, g, few_, worse, are) =
      let at : p ≡ q = refers_once format words xs ys f g p q bad worse in
      fault_is BadRef p q v w at (is ∙ ap (λ i. get_or words i 0) at ∙ sym are)
  same_fault BadRef BadRoot p v q w a b = absurd (refers_none format words b.0 a.0 b.1 a.1 p b.3 a.3)
  same_fault BadRoot Overrun p v q w a b = absurd (overrun_fills q b.0 a.0 a.1)
  same_fault BadRoot TooManyObjects p v q w a b = absurd (omega (arith, a.2, b.2, filled_length format words a.0 b.0 a.1 b.1))
  same_fault BadRoot BadRef p v q w a b = absurd (refers_none format words a.0 b.0 a.1 b.1 q a.3 b.3)
  same_fault BadRoot BadRoot p v q w (xs, f, few, each, bad, is) (ys, g, few_, also, worse, are) =
      let at : p ≡ q = roots_once format words xs ys f g roots p q bad worse in
      fault_is BadRoot p q v w at (is ∙ ap (λ i. get_or roots i 0) at ∙ sym are)
  same_fault kind Short p v q w fails none = absurd none
  same_fault kind Magic p v q w fails none = absurd none
  same_fault kind TooManyWords p v q w fails none = absurd none
  same_fault kind TooManyRoots p v q w fails none = absurd none
  same_fault kind Long p v q w fails none = absurd none
  same_fault Short other p v q w none fails = absurd none
  same_fault Magic other p v q w none fails = absurd none
  same_fault TooManyWords other p v q w none fails = absurd none
  same_fault TooManyRoots other p v q w none fails = absurd none
  same_fault Long other p v q w none fails = absurd none

-- words and roots have at most one fault
pub fault_once : (format : ℕ) (words roots : List ℕ) (a b : ImageFault) → HasFault format words roots a → HasFault format words roots b → a ≡ b
fault_once format words roots a b this that = same_fault format words roots a.kind b.kind a.place a.value b.place b.value this that

-- a refusal that tells a fault tells the one fault there is
pub told_once : (format : ℕ) (words roots : List ℕ) (fault : ImageFault) (refusal : ReadImage) → HasFault format words roots fault
    → OnFault refusal (HasFault format words roots) → Tells fault refusal
told_once format words roots fault Memory this that = inl refl
told_once format words roots fault (Fault other) this that = inr (ap Fault (fault_once format words roots other fault that this))

-- a refusal of a lawful heap is want of memory
pub refused_for_memory : (format : ℕ) (words roots : List ℕ) (heap : Heap) (refusal : ReadImage) → IsHeapOf format words roots heap
    → OnFault refusal (HasFault format words roots) → refusal ≡ Memory
refused_for_memory format words roots heap Memory is fails = refl
refused_for_memory format words roots heap (Fault fault) is fails = absurd (no_fault format words roots heap fault is fails)
