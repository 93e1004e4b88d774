-- What a work keeps of the items that came back to it.
use Rattle.std.specs.Prelude.{◌≡◌, ℕ, ◌+◌, List, [], ◌∷◌, ◌++◌, Option, Some, None}

-- the items kept, and how many more there is room for
pub record Keeping : Type 0 where
  pub items : List ℕ
  pub spare : ℕ

-- it handed out the last of them, or none where there was none
abbrev pub HandsOut : Keeping → Keeping → Option ℕ → Type 0
HandsOut before now (Some item) =
    (before.items ≡ now.items ++ item ∷ []) × (now.spare ≡ before.spare + 1)
HandsOut before now None = (before.items ≡ []) × (now ≡ before)
