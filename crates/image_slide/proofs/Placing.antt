-- Giving new places to one marked object after another.
use Rattle.std.proofs.Common.{◌≡◌, ℕ, ◌+◌, ◌<◌, ◌≤◌, inl, inr, List, [], ◌∷◌, ◌++◌, Bool, false, refl, sym, ap, ◌∙◌, subst, arith, length, get_or, take, drop, map, replicate}
use Rattle.std.specs.List.{sum_by}
use Rattle.std.proofs.lemmas.Bool.{cases_lt}
use Rattle.std.proofs.lemmas.List.{length-drop, length_push, map_push, take_more, take_all, drop_all, drop_more}
use Rattle.bit_sets.specs.Run.{with_run}
use Rattle.image_core.specs.Object.{size_at}
use Rattle.image_slide.specs.Slide.{new_place}
use Rattle.image_slide.specs.LiveWords.{InOrder, AreLiveWords}
use Rattle.image_slide.proofs.Order.{InOrder-fits, new_place-front, sizes_more, sizes_fit_more}
use Rattle.image_slide.proofs.Ranks.{AreLive-none, AreLive-more}

-- what is left of a list begins with this
pub drop_first : (xs : List ℕ) (n x : ℕ) (rest : List ℕ) → drop n xs ≡ x ∷ rest
    → (n < length xs) × (get_or xs n 0 ≡ x) × (drop (n + 1) xs ≡ rest)
drop_first xs n x rest is = elim (cases_lt n (length xs)) [
  | inl below ↦
      let more : get_or xs n 0 ∷ drop (n + 1) xs ≡ x ∷ rest = sym (drop_more xs n 0 below) ∙ is in
      let head : get_or xs n 0 ≡ x = cc in
      let tail : drop (n + 1) xs ≡ rest = cc in
      (below, head, tail)
  | inr past ↦ absurd (omega (arith, ap length (sym (drop_all n xs past) ∙ is)))
]

-- the words of the first n of these objects have their bits, these objects have their places, and the next one will stand at `next`
pub record Placing (format : ℕ) (words live : List ℕ) (n next : ℕ) (bits : List Bool) (places : List ℕ) : Type 0 where
  pub marked : AreLiveWords format words (take n live) bits
  pub many : length places ≡ n
  pub few : n ≤ next
  pub next_is : next ≡ sum_by (size_at format words) (take n live)
  pub places_are : places ≡ map (new_place format words live) (take n live)

-- one more object, whose header stands at `head`, has its place
pub record NextPlaced (format : ℕ) (words live : List ℕ) (n next : ℕ) (bits : List Bool) (places : List ℕ) (head : ℕ) (rest : List ℕ) : Type 0 where
  pub below : n < length live
  pub left : drop (n + 1) live ≡ rest
  pub here : head + size_at format words head ≤ length words
  pub fits : next + size_at format words head ≤ length words
  pub more : Placing format words live (n + 1) (next + size_at format words head) (with_run bits head (head + size_at format words head)) (places ++ next ∷ [])

module _ (format : ℕ) (words live : List ℕ) (n next : ℕ) (bits : List Bool) (places : List ℕ) (order : InOrder format words 0 live) (p : Placing format words live n next bits places) where
  placed_next : n < length live → NextPlaced format words live n next bits places (get_or live n 0) (drop (n + 1) live)
  placed_next below =
      let size : ℕ = size_at format words (get_or live n 0) in
      let place : new_place format words live (get_or live n 0) ≡ next = new_place-front format words live n order below ∙ sym p.next_is in
      let fits : next + size ≤ length words = omega (arith, p.next_is, sizes_fit_more format words live n order below) in
      let here = InOrder-fits format words live order n below in
      record {
        below = below;
        left = refl;
        here = here;
        fits = fits;
        more = record {
          marked = AreLive-more format words live bits n below here p.marked;
          many = omega (arith, length_push places next, p.many);
          few = omega (arith, p.few);
          next_is = omega (arith, p.next_is, sizes_more format words live n below);
          places_are = ap (λ l. l ++ next ∷ []) p.places_are
              ∙ (ap (λ k. map (new_place format words live) (take n live) ++ k ∷ []) (sym place)
              ∙ (sym (map_push (new_place format words live) (take n live) (get_or live n 0))
              ∙ ap (map (new_place format words live)) (sym (take_more live n 0 below))));
        };
      }

  -- it is the first of those that are left
  pub next_placed : (head : ℕ) (rest : List ℕ) → drop n live ≡ head ∷ rest → NextPlaced format words live n next bits places head rest
  next_placed head rest is =
      let there = drop_first live n head rest is in
      subst (λ (z : ℕ × List ℕ). NextPlaced format words live n next bits places z.0 z.1) (λ k. (there.1 k, there.2 k)) (placed_next there.0)

-- no object has its place yet
pub none_placed : (format : ℕ) (words live : List ℕ) (n : ℕ) (bits : List Bool) (places : List ℕ) → n ≡ 0
    → bits ≡ replicate (length words) false → places ≡ [] → Placing format words live n 0 bits places
none_placed format words live n bits places count bits_are none =
    rw (count, bits_are, none) (record {
      marked = AreLive-none format words;
      many = refl;
      few = omega arith;
      next_is = refl;
      places_are = refl;
    })

-- all of them have their places
pub all_placed : (live : List ℕ) (n : ℕ) → drop n live ≡ [] → take n live ≡ live
all_placed live n none = take_all n live (omega (arith, length-drop n live, ap length none))
