-- The words of an object that name objects, and their parts.
use Rattle.std.proofs.Common.{◌≡◌, ℕ, ◌+◌, ◌-◌, ◌<◌, List, [], ◌∷◌, ◌++◌, sym, ap, subst, ◌∙◌, arith, get_or, length, take, drop}
use Rattle.std.proofs.Math.Seq.{take-add}
use Rattle.std.proofs.lemmas.List.{get_or-take, get_or-drop, length-take, length-drop, drop-drop}
use Rattle.std.proofs.lemmas.List.Elements.{All-nil, All-cons, All-head, All-tail}
use Rattle.std.specs.List.{All}
use Rattle.image_core.specs.Object.{refs_at, weak_at, names_at, references_at, weak_references_at, naming_at, Fits}
use Rattle.image_core.specs.Heap.{Names}

-- the words of each kind are as many as the header says
pub length-references : (words : List ℕ) (head : ℕ) → head + refs_at words head < length words
    → length (references_at words head) ≡ refs_at words head
length-references words head within = simp (length-take, length-drop) (omega arith)

pub length-weak_references : (format : ℕ) (words : List ℕ) (head : ℕ) → Fits format words head
    → length (weak_references_at format words head) ≡ weak_at format words head
length-weak_references format words head fits = simp (length-take, length-drop) (omega arith)

pub length-naming : (format : ℕ) (words : List ℕ) (head : ℕ) → Fits format words head → length (naming_at format words head) ≡ names_at format words head
length-naming format words head fits = simp (length-take, length-drop) (omega arith)

pub get_or-naming : (format : ℕ) (words : List ℕ) (head k : ℕ) → k < names_at format words head
    → get_or (naming_at format words head) k 0 ≡ get_or words (head + 1 + k) 0
get_or-naming format words head k below =
    get_or-take (head + 1 + names_at format words head - (head + 1)) (drop (head + 1) words) k 0 (omega arith) ∙ get_or-drop (head + 1) words k 0

-- of those that name objects, the references come first, and the weak words behind them
pub naming-parts : (format : ℕ) (words : List ℕ) (head : ℕ)
    → naming_at format words head ≡ references_at words head ++ weak_references_at format words head
naming-parts format words head =
    let r : ℕ = refs_at words head in
    let w : ℕ = weak_at format words head in
    let behind : List ℕ = drop (head + 1) words in
    let both : head + 1 + names_at format words head - (head + 1) ≡ r + w = omega arith in
    let first : head + 1 + r - (head + 1) ≡ r = omega arith in
    let last : head + 1 + names_at format words head - (head + 1 + r) ≡ w = omega arith in
    ap (λ n. take n behind) both ∙ take-add r w behind
    ∙ ap (λ n. take n behind ++ take w (drop r behind)) (sym first)
    ∙ ap (λ xs. references_at words head ++ take w xs) (drop-drop r (head + 1) words)
    ∙ ap (λ n. references_at words head ++ take n (drop (head + 1 + r) words)) (sym last)

-- what holds of each element of two lists, joined, holds of each of either
All-parts : {X : Type 0} (P : X → Type 0) (xs ys : List X) → All P (xs ++ ys) → All P xs × All P ys
All-parts P [] ys all = (All-nil P, all)
All-parts P (x ∷ xs) ys all =
    let rest = All-parts P xs ys (All-tail P x (xs ++ ys) all) in
    (All-cons P x xs (All-head P x (xs ++ ys) all) rest.0, rest.1)

-- the words of either kind of an object name, where all that name objects do
module _ (format : ℕ) (words heads : List ℕ) (head : ℕ) (all : All (Names heads) (naming_at format words head)) where
  pub references_named : All (Names heads) (references_at words head)
  references_named =
      (All-parts (Names heads) (references_at words head) (weak_references_at format words head)
      (subst (All (Names heads)) (naming-parts format words head) all)).0

  pub weak_references_named : All (Names heads) (weak_references_at format words head)
  weak_references_named =
      (All-parts (Names heads) (references_at words head) (weak_references_at format words head)
      (subst (All (Names heads)) (naming-parts format words head) all)).1
