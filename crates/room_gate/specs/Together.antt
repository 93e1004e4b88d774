-- What callers that run together bring back.
use Rattle.std.specs.Prelude.{ℕ, ◌<◌, List, length, slice_index_or}

-- R holds of each thing of xs and the one at its place in ys
abbrev pub EachGives : {A B : Type 0} → (A → B → Type 0) → List A → List B → Type 0
EachGives {A} {B} R xs ys =
    (i : ℕ) (d : A) (e : B) → i < length xs → R (slice_index_or xs i d) (slice_index_or ys i e)
