-- Paths of references, and what they lead to.
use Rattle.std.proofs.Common.{◌≡◌, ℕ, ◌<◌, inl, inr, List, [], ◌∷◌, ◌++◌, refl, sym, subst, arith}
use Rattle.std.proofs.lemmas.List.Elements.{All-contains}
use Rattle.std.specs.List.{Contains, All}
use Rattle.image_core.specs.Object.{references_at}
use Rattle.image_core.specs.Heap.{Heap, head_of, Names, IsLawful}
use Rattle.image_core.specs.Live.{IsObject, name_of, IsRoot, RefersTo, Leads, IsLive}
use Rattle.image_core.proofs.Naming.{named}
use Rattle.image_core.proofs.Parts.{references_named}

-- a path and one reference more
Leads-push : (heap : Heap) (first : ℕ) (path : List ℕ) (object other : ℕ) → Leads heap first path object → RefersTo heap object other
    → Leads heap first (path ++ other ∷ []) other
Leads-push heap first [] object other leads refers = (subst (λ o. RefersTo heap o other) (sym leads) refers, refl)
Leads-push heap first (next ∷ path) object other leads refers = (leads.0, Leads-push heap next path object other leads.1 refers)

-- the object of a root is live
pub IsLive-root : (heap : Heap) (object : ℕ) → IsRoot heap object → IsLive heap object
IsLive-root heap object root = (object, [], root, refl)

-- and so is what a live object refers to
pub IsLive-reference : (heap : Heap) (object other : ℕ) → IsLive heap object → RefersTo heap object other → IsLive heap other
IsLive-reference heap object other (first, path, root, leads) refers =
    (first, path ++ other ∷ [], root, Leads-push heap first path object other leads refers)

-- what goes along references goes along a path
along : (heap : Heap) (P : ℕ → Type 0) → ((object other : ℕ) → P object → RefersTo heap object other → P other)
    → (first : ℕ) (path : List ℕ) (last : ℕ) → P first → Leads heap first path last → P last
along heap P step first [] last holds leads = subst P leads holds
along heap P step first (next ∷ path) last holds leads = along heap P step next path last (step first next holds leads.0) leads.1

-- what holds of the objects of roots, and goes along references, holds of each live object
pub IsLive-induction : (heap : Heap) (P : ℕ → Type 0) → ((object : ℕ) → IsRoot heap object → P object)
    → ((object other : ℕ) → P object → RefersTo heap object other → P other) → (object : ℕ) → IsLive heap object → P object
IsLive-induction heap P start step object (first, path, root, leads) = along heap P step first path object (start first root) leads

pub IsLive-object : (heap : Heap) (object : ℕ) → IsLive heap object → IsObject heap object
IsLive-object heap = IsLive-induction heap (IsObject heap) (λ object root. root.0) (λ object other is refers. refers.1)

module _ (heap : Heap) (lawful : IsLawful heap) where
  -- a root that is not 0 names an object, which is live
  pub root_of : (word : ℕ) → Contains heap.roots word → 0 < word
      → (object : ℕ) × IsObject heap object × (word ≡ name_of heap object) × IsLive heap object
  root_of word root some_ = elim (named heap.heads word (All-contains (Names heap.heads) heap.roots word lawful.roots root)) [
    | inl none_ ↦ absurd (omega (arith, none_, some_))
    | inr there ↦ (there.0, there.1, there.2, IsLive-root heap there.0 (there.1, subst (Contains heap.roots) there.2 root))
  ]

  -- a reference word of an object that is not 0 names an object, to which the first refers
  pub reference_of : (object word : ℕ) → IsObject heap object → Contains (references_at heap.words (head_of heap object)) word → 0 < word
      → (other : ℕ) × IsObject heap other × (word ≡ name_of heap other) × RefersTo heap object other
  reference_of object word is reference some_ =
      let all : All (Names heap.heads) (references_at heap.words (head_of heap object)) =
      references_named heap.format heap.words heap.heads (head_of heap object) (lawful.references object 0 is) in
      elim (named heap.heads word (All-contains (Names heap.heads) (references_at heap.words (head_of heap object)) word all reference)) [
        | inl none_ ↦ absurd (omega (arith, none_, some_))
        | inr there ↦
            (there.0, there.1, there.2, (is, there.1, subst (Contains (references_at heap.words (head_of heap object))) there.2 reference))
      ]
