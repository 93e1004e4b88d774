-- Lists that are made one by one.
use Rattle.std.proofs.Common.{◌≡◌, ℕ, ◌+◌, List, [], ◌∷◌, ◌++◌, map, sym, ap, ◌∙◌, arith}
use Rattle.std.specs.List.{range_with_len}
use Rattle.std.proofs.lemmas.List.FromFn.{map-range_with_len_more}

pub made_more : {A : Type 0} (f : ℕ → A) (k : ℕ) (now past : List A) (next : A) → now ≡ past ++ next ∷ []
    → past ≡ map f (range_with_len 0 k) → next ≡ f k → now ≡ map f (range_with_len 0 (k + 1))
made_more f k now past next more so_far is =
    more
    ∙ (ap (λ xs. xs ++ next ∷ []) so_far
    ∙ (ap (λ x. map f (range_with_len 0 k) ++ x ∷ []) is ∙ sym (map-range_with_len_more f 0 k k (omega arith))))
