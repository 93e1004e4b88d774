-- What contracts see of work, and what each of its calls does to it.
use Rattle.std.specs.Prelude.{◌≡◌, ℕ, ◌-◌, ◌≤◌, List, [], ◌∷◌, ◌++◌, length, All, Option, Some, None}
use Rattle.std.specs.List.Sorted.{IsPermutation}

-- Work: the items given and to be given, those kept, in whatever order, how many more it can keep,
-- and the items handled
pub record Standing : Type 0 where
  pub given : List ℕ
  pub to_give : List ℕ
  pub kept_items : List ℕ
  pub spare : ℕ
  pub done : List ℕ

-- it handled an item, which leads to each of those that are to be given after
pub record Handles (leads : ℕ → Type 0) (item : ℕ) (before now : Standing) : Type 0 where
  pub more : List ℕ
  pub led : All leads more
  pub room : length now.to_give ≤ now.spare
  pub same : now ≡ record before {
    to_give = before.to_give ++ more;
    spare = now.spare;
    done = before.done ++ item ∷ [];
  }

-- it has not handled the item, and is of no more use
pub record Lacks (before now : Standing) : Type 0 where
  pub given : now.given ≡ before.given
  pub done : now.done ≡ before.done

-- it gave the first item that was to be given, or none where there was none
abbrev pub Gives : Standing → Standing → Option ℕ → Type 0
Gives before now (Some item) =
    (before.to_give ≡ item ∷ now.to_give)
    × (now ≡ record before { given = before.given ++ item ∷ []; to_give = now.to_give })
Gives before now None = (before.to_give ≡ []) × (now ≡ before)

-- it keeps an item more
pub record Keeps (item : ℕ) (before now : Standing) : Type 0 where
  pub kept_items : IsPermutation now.kept_items (item ∷ before.kept_items)
  pub same : now ≡ record before { kept_items = now.kept_items; spare = before.spare - 1 }

-- it handed out one of the items kept, or none where there was none
abbrev pub Unkeeps : Standing → Standing → Option ℕ → Type 0
Unkeeps before now (Some item) =
    IsPermutation before.kept_items (item ∷ now.kept_items)
    × (before.spare ≤ now.spare)
    × (now ≡ record before { kept_items = now.kept_items; spare = now.spare })
Unkeeps before now None = (before.kept_items ≡ []) × (now ≡ before)
