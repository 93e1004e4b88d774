-- Lists read from their other end.
use Rattle.std.proofs.Common.{◌≡◌, ℕ, ◌<◌, ◌-◌, List, length, sym, ap, ◌∙◌, subst, arith}
use Rattle.std.specs.Prelude.{reverse, slice_index_or}
use Rattle.std.proofs.lemmas.List.{get_or-reverse, length-reverse}
use Rattle.room_gate.specs.Together.{EachGives}

-- what holds of each of them holds of each of them backward
pub ready_backward : {A : Type 0} (P : A → Type 0) (xs : List A) → ((i : ℕ) (x : A) → i < length xs → x ≡ slice_index_or xs i x → P x)
    → (ys : List A) → ys ≡ reverse xs → (i : ℕ) (x : A) → i < length ys → x ≡ slice_index_or ys i x → P x
ready_backward P xs each ys is i x h at =
    let long = ap length is ∙ length-reverse xs in
    each (length xs - 1 - i) x (omega (arith, h, long)) (at ∙ ap (λ zs. slice_index_or zs i x) is ∙ get_or-reverse xs i x (omega (arith, h, long)))

-- what each gives of a list backward, read backward again
pub given_backward : {A B : Type 0} (R : A → B → Type 0) (xs ys : List A) (es zs : List B) → ys ≡ reverse xs → length zs ≡ length ys
    → es ≡ reverse zs → EachGives R ys zs → EachGives R xs es
given_backward R xs ys es zs things same given each i d e h =
    let long = ap length things ∙ length-reverse xs in
    let j = length xs - 1 - i in
    let at_thing : slice_index_or ys j d ≡ slice_index_or xs i d =
    ap (λ ts. slice_index_or ts j d) things ∙ get_or-reverse xs j d (omega (arith, h))
    ∙ ap (λ k. slice_index_or xs k d) (omega (arith, h)) in
    let at_given : slice_index_or zs j e ≡ slice_index_or es i e =
    sym (ap (λ ts. slice_index_or ts i e) given ∙ get_or-reverse zs i e (omega (arith, h, same, long))
    ∙ ap (λ k. slice_index_or zs k e) (omega (arith, h, same, long))) in
    subst (λ b. R (slice_index_or xs i d) b) at_given
    (subst (λ a. R a (slice_index_or zs j e)) at_thing (each j d e (omega (arith, h, long))))
