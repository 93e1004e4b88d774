-- Which objects are live. An object is known by its number, in the order of the headers.
use Rattle.std.specs.Prelude.{◌≡◌, ℕ, ◌+◌, ◌<◌, ◌↔◌, List, [], ◌∷◌, length, slice_index_or, Contains, Bool, false, IsTrue}
use Rattle.image_core.specs.Object.{references_at}
use Rattle.image_core.specs.Heap.{Heap, head_of}

-- there is an object of this number
abbrev pub IsObject : Heap → ℕ → Type 0
IsObject heap object = object < length heap.heads

-- the word that names an object
abbrev pub name_of : Heap → ℕ → ℕ
name_of heap object = 1 + head_of heap object

-- a root names the object
abbrev pub IsRoot : Heap → ℕ → Type 0
IsRoot heap object = IsObject heap object × Contains heap.roots (name_of heap object)

-- one of an object's reference words names the other
abbrev pub RefersTo : Heap → ℕ → ℕ → Type 0
RefersTo heap object other =
    IsObject heap object × IsObject heap other
    × Contains (references_at heap.words (head_of heap object)) (name_of heap other)

-- a path of references leads from an object through these, each the next, to the last
abbrev pub Leads : Heap → ℕ → List ℕ → ℕ → Type 0
Leads heap object [] last = object ≡ last
Leads heap object (next ∷ objects) last = RefersTo heap object next × Leads heap next objects last

-- a path leads to the object from one that a root names
abbrev pub IsLive : Heap → ℕ → Type 0
IsLive heap object = (first : ℕ) × (path : List ℕ) × IsRoot heap first × Leads heap first path object

-- a value for each object: whether it is live
pub record MarksLive (heap : Heap) (live : List Bool) : Type 0 where
  pub each : length live ≡ length heap.heads
  pub exact : (object : ℕ) → IsObject heap object → IsTrue (slice_index_or live object false) ↔ IsLive heap object
