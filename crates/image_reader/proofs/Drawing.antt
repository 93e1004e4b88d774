-- Draws one after another, and what they add up to.
use Rattle.std.proofs.Common.{◌≡◌, ℕ, zero, suc, ◌+◌, ◌*◌, ◌/◌, ◌<◌, ◌≤◌, List, [], ◌∷◌, ◌++◌, refl, sym, ap, ◌∙◌, arith, length, get_or, map, append_assoc}
use Rattle.std.proofs.lemmas.List.FromFn.{get_or-map-range_with_len, map-range_with_len_more, length-map-range_with_len, sum_by-map-range_with_len_more}
use Rattle.std.proofs.lemmas.List.{map_push}
use Rattle.image_reader.specs.Draws.{next, after, draw, draws}
use Rattle.image_reader.specs.Made.{body, bodies, place, places}

one_more : (n : ℕ) → n + 1 ≡ suc n
one_more n = omega arith

after_more : (start count : ℕ) → after start (count + 1) ≡ next (after start count)
after_more start count = ap (after start) (one_more count)

-- one more draw from where so many ended
pub draw_is : (start count number drawn : ℕ) → number ≡ after start count → drawn ≡ next number / 256 → drawn ≡ draw start count
draw_is start count number drawn at is = is ∙ ap (λ n. next n / 256) at

pub number_is : (start count number left : ℕ) → number ≡ after start count → left ≡ next number → left ≡ after start (count + 1)
number_is start count number left at is = is ∙ ap next at ∙ sym (after_more start count)

-- one more word behind others
pub joined : (old piece longer now new : List ℕ) (word last : ℕ) → new ≡ now ++ word ∷ [] → now ≡ old ++ piece → word ≡ last
    → longer ≡ piece ++ last ∷ [] → new ≡ old ++ longer
joined old piece longer now new word last pushed before is more =
    pushed ∙ ap (λ ws. ws ++ word ∷ []) before ∙ append_assoc old piece (word ∷ [])
    ∙ ap (λ w. old ++ (piece ++ w ∷ [])) is ∙ ap (λ ws. old ++ ws) (sym more)

-- draws go on from where others ended
pub after_after : (start first count : ℕ) → after (after start first) count ≡ after start (first + count)
after_after start first zero = let same : first ≡ first + 0 = omega arith in ap (after start) same
after_after start first (suc count) =
    let same : suc (first + count) ≡ first + suc count = omega arith in
    ap next (after_after start first count) ∙ ap (after start) same

draw_after : (start first before : ℕ) → draw (after start first) before ≡ draw start (first + before)
draw_after start first before = ap (λ n. next n / 256) (after_after start first before)

pub draws_after : (start first before count : ℕ) → draws (after start first) before count ≡ draws start (first + before) count
draws_after start first before zero = refl
draws_after start first before (suc count) =
    let on : first + (before + 1) ≡ first + before + 1 = omega arith in
    let rest : draws (after start first) (before + 1) count ≡ draws start (first + before + 1) count =
    draws_after start first (before + 1) count ∙ ap (λ b. draws start b count) on in
    ap (λ d. d ∷ draws (after start first) (before + 1) count) (draw_after start first before)
    ∙ ap (λ ds. draw start (first + before) ∷ ds) rest

pub draws_more : (start before count last : ℕ) → before + count ≡ last → draws start before (count + 1) ≡ draws start before count ++ draw start last ∷ []
draws_more start before count last is = map-range_with_len_more (draw start) before count last is

-- one more draw, and one more word made of it
pub made_more : (f : ℕ → ℕ) (start count : ℕ) → map f (draws start 0 (count + 1)) ≡ map f (draws start 0 count) ++ f (draw start count) ∷ []
made_more f start count = ap (map f) (draws_more start 0 count count (omega arith)) ∙ map_push f (draws start 0 count) (draw start count)

pub length-draws : (start before count : ℕ) → length (draws start before count) ≡ count
length-draws start before count = length-map-range_with_len (draw start) before count

pub draw_at : (start count i : ℕ) → i < count → get_or (draws start 0 count) i 0 ≡ draw start i
draw_at start count i below = get_or-map-range_with_len (draw start) 0 count i i 0 below (omega arith)

pub length-places : (start objects : ℕ) → length (places start objects) ≡ objects
length-places start objects = length-map-range_with_len (place start) 0 objects

pub bodies_more : (start object : ℕ) → bodies start (object + 1) ≡ bodies start object + body (draw start object)
bodies_more start object = sum_by-map-range_with_len_more body (draw start) 0 object object (omega arith)

pub place_more : (start object : ℕ) → place start (object + 1) ≡ place start object + (1 + body (draw start object))
place_more start object = omega (arith, bodies_more start object)

pub places_more : (start objects : ℕ) → places start (objects + 1) ≡ places start objects ++ place start objects ∷ []
places_more start objects = map-range_with_len_more (place start) 0 objects objects (omega arith)

pub body_small : (shape : ℕ) → body shape ≤ 3
body_small shape = grind arith

pub bodies_small : (start objects : ℕ) → bodies start objects ≤ 3 * objects
bodies_small start zero = omega arith
bodies_small start (suc objects) =
    omega (
      arith,
      bodies_more start objects,
      ap (bodies start) (one_more objects),
      body_small (draw start objects),
      bodies_small start objects,
    )
