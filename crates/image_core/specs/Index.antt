-- An index from places to objects, by bits: which words are headers, and how many stand below each.
use Rattle.std.specs.Prelude.{◌≡◌, ℕ, ◌<◌, ◌↔◌, List, length, slice_index, slice_index_or, Contains, Bool, true, false}
use Rattle.bit_sets.specs.Rank.{rank}

-- a place has its bit exactly where a header stands there
abbrev pub AreHeads : List ℕ → List Bool → Type 0
AreHeads heads bits = (place : ℕ) → (slice_index_or bits place false ≡ true) ↔ Contains heads place

-- a place has its bit, and as many others stand below it as an object has before it, exactly where the header of that object stands there
pub record IsIndex (heads : List ℕ) (bits : List Bool) : Type 0 where
  pub entry : (place object : ℕ)
      → ((slice_index_or bits place false ≡ true) × (rank bits place ≡ object))
      ↔ ((object < length heads) × (slice_index heads object ≡ place))
