-- Objects that are drawn, one after another.
use Rattle.std.proofs.Common.{◌≡◌, ℕ, ◌+◌, List, [], ◌∷◌, ◌++◌, sym, ap, ◌∙◌, arith, length, map, append_assoc}
use Rattle.std.proofs.lemmas.List.{append-nil, map-id}
use Rattle.std.proofs.lemmas.List.Concat.{flat_map-append}
use Rattle.std.proofs.lemmas.List.FromFn.{map-range_with_len_more}
use Rattle.std.specs.List.{range_with_len, flat_map}
use Rattle.image_reader.specs.Draws.{after, draw, draws}
use Rattle.image_reader.specs.Made.{refs, data_words, body, header, reference, drawn_before, object_words}
use Rattle.image_reader.proofs.Drawing.{after_after, draws_after, bodies_more}

-- one number more
range_more : (count : ℕ) → range_with_len 0 (count + 1) ≡ range_with_len 0 count ++ count ∷ []
range_more count =
    sym (map-id (range_with_len 0 (count + 1)))
    ∙ map-range_with_len_more (λ x. x) 0 count count (omega arith)
    ∙ ap (λ l. l ++ count ∷ []) (map-id (range_with_len 0 count))

pub objects_more : (f : ℕ → List ℕ) (count : ℕ) → flat_map f (range_with_len 0 (count + 1)) ≡ flat_map f (range_with_len 0 count) ++ f count
objects_more f count =
    ap (flat_map f) (range_more count) ∙ flat_map-append f (range_with_len 0 count) (count ∷ [])
    ∙ ap (λ l. flat_map f (range_with_len 0 count) ++ l) (append-nil (f count))

-- where the draws stand after the body of an object
pub after_body : (start objects object number shape : ℕ) → number ≡ after start (drawn_before start objects object) → shape ≡ draw start object
    → after number (body shape) ≡ after start (drawn_before start objects (object + 1))
after_body start objects object number shape at is =
    let on : drawn_before start objects object + body (draw start object) ≡ drawn_before start objects (object + 1) = omega (arith, bodies_more start object) in
    ap (λ n. after n (body shape)) at ∙ ap (λ v. after (after start (drawn_before start objects object)) (body v)) is
    ∙ after_after start (drawn_before start objects object) (body (draw start object)) ∙ ap (after start) on

-- the words that an object adds
pub object_drawn : (start : ℕ) (heads words : List ℕ) (object number shape : ℕ) → number ≡ after start (drawn_before start (length heads) object)
    → shape ≡ draw start object
    → (words ++ header object shape ∷ []) ++ map (reference heads) (draws number 0 (refs shape)) ++ draws number (refs shape) (data_words shape)
    ≡ words ++ object_words start heads object
object_drawn start heads words object number shape at is =
    let before : ℕ = drawn_before start (length heads) object in
    let v : ℕ = draw start object in
    let same : before + 0 ≡ before = omega arith in
    let first : draws number 0 (refs shape) ≡ draws start before (refs v) =
    ap (λ n. draws n 0 (refs shape)) at ∙ ap (λ s. draws (after start before) 0 (refs s)) is
    ∙ draws_after start before 0 (refs v) ∙ ap (λ n. draws start n (refs v)) same in
    let rest : draws number (refs shape) (data_words shape) ≡ draws start (before + refs v) (data_words v) =
    ap (λ n. draws n (refs shape) (data_words shape)) at ∙ ap (λ s. draws (after start before) (refs s) (data_words s)) is
    ∙ draws_after start before (refs v) (data_words v) in
    ap (λ s. (words ++ header object s ∷ []) ++ map (reference heads) (draws number 0 (refs shape)) ++ draws number (refs shape) (data_words shape)) is
    ∙ ap (λ ds. (words ++ header object v ∷ []) ++ map (reference heads) ds ++ draws number (refs shape) (data_words shape)) first
    ∙ ap (λ ds. (words ++ header object v ∷ []) ++ map (reference heads) (draws start before (refs v)) ++ ds) rest
    ∙ append_assoc (words ++ header object v ∷ []) (map (reference heads) (draws start before (refs v))) (draws start (before + refs v) (data_words v))
    ∙ append_assoc words (header object v ∷ []) (map (reference heads) (draws start before (refs v)) ++ draws start (before + refs v) (data_words v))
