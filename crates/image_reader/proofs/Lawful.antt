-- The heap that is made up is lawful.
use Rattle.std.proofs.Common.{◌≡◌, ℕ, zero, suc, ◌+◌, ◌-◌, ◌%◌, ◌^◌, ◌<◌, ◌≤◌, inl, inr, List, ◌∷◌, ◌++◌, eqb, refl, sym, ap, subst, ◌∙◌, arith, length, get_or, take, drop, map, min, append_assoc}
use Rattle.std.proofs.Math.Nat.{mod-lt}
use Rattle.std.proofs.lemmas.Bool.{cases_lt, cases_eq, cond-true, cond-false, ne_eqb, eq-eqb}
use Rattle.std.proofs.lemmas.List.{take_at, drop_at, drop-drop, get_or-drop, length-map, length-append}
use Rattle.std.proofs.lemmas.List.Concat.{flat_map-append}
use Rattle.std.proofs.lemmas.List.Elements.{All-map}
use Rattle.std.proofs.lemmas.List.FromFn.{get_or-map-range_with_len}
use Rattle.std.specs.List.{range_with_len, flat_map, All}
use Rattle.image_core.specs.Header.{refs_of, weak_of, plain_of, names_of, size_of}
use Rattle.image_core.specs.Object.{size_at, names_at, naming_at}
use Rattle.image_core.specs.Heap.{Heap, Stand, Names, EachReferenceNames, IsLawful}
use Rattle.image_core.proofs.Naming.{Names-head}
use Rattle.image_reader.specs.Draws.{after, draw, draws}
use Rattle.image_reader.specs.Made.{refs, data_words, body, header, place, places, reference, root, drawn_before, object_words, made}
use Rattle.image_reader.proofs.Drawing.{draws_after, length-draws, length-places, place_more, bodies_small, body_small}
use Rattle.image_reader.proofs.ObjectWords.{objects_more}

-- the parts of a header
refs_of-header : (object shape : ℕ) → refs_of (header object shape) ≡ refs shape
unfolding refs_of
refs_of-header object shape = omega (arith, body_small shape)

plain_of-header : (object shape : ℕ) → plain_of (header object shape) ≡ data_words shape
unfolding plain_of
plain_of-header object shape = omega (arith, body_small shape)

weak_of-header : (object shape : ℕ) → weak_of 1 (header object shape) ≡ 0
unfolding weak_of
weak_of-header object shape = refl

names_of-header : (object shape : ℕ) → names_of 1 (header object shape) ≡ refs shape
names_of-header object shape = omega (arith, refs_of-header object shape, weak_of-header object shape)

size_of-header : (object shape : ℕ) → size_of 1 (header object shape) ≡ 1 + body shape
size_of-header object shape = omega (arith, names_of-header object shape, plain_of-header object shape)

-- the numbers from one on, in two parts
range_split : (from count rest : ℕ) → range_with_len from (count + rest) ≡ range_with_len from count ++ range_with_len (from + count) rest
range_split from zero rest =
    let none : 0 + rest ≡ rest = omega arith in
    let same : from ≡ from + 0 = omega arith in
    ap (range_with_len from) none ∙ ap (λ k. range_with_len k rest) same
range_split from (suc count) rest =
    let one : suc count + rest ≡ suc (count + rest) = omega arith in
    let same : from + 1 + count ≡ from + suc count = omega arith in
    ap (range_with_len from) one ∙ ap (λ l. from ∷ l) (range_split (from + 1) count rest ∙ ap (λ k. range_with_len (from + 1) count ++ range_with_len k rest) same)

-- a word of a reference or a root names an object
Names-reference : (heads : List ℕ) (drawn : ℕ) → Names heads (reference heads drawn)
Names-reference heads drawn = elim (cases_eq (drawn % (length heads + 1)) (length heads)) [
  | inl none_ ↦
      inl (cond-true (eqb (drawn % (length heads + 1)) (length heads)) 0 (1 + get_or heads (drawn % (length heads + 1)) 0) (eq-eqb (drawn % (length heads + 1)) (length heads) none_))
  | inr some_ ↦
      Names-head heads (reference heads drawn) (drawn % (length heads + 1)) (omega arith)
      (cond-false (eqb (drawn % (length heads + 1)) (length heads)) 0 (1 + get_or heads (drawn % (length heads + 1)) 0) (ne_eqb (drawn % (length heads + 1)) (length heads) some_))
]

Names-root : (heads : List ℕ) (drawn : ℕ) → 0 < length heads → Names heads (root heads drawn)
Names-root heads drawn some_ = Names-head heads (root heads drawn) (drawn % length heads) (mod-lt drawn some_) refl

All-made : (P : ℕ → Type 0) (f : ℕ → ℕ) (xs : List ℕ) → ((x : ℕ) → P (f x)) → All P (map f xs)
All-made P f xs each = All-map P f xs (λ k d below. each (get_or xs k d))

module _ (start objects : ℕ) where
  abbrev heads_ : List ℕ
  heads_ = places start objects

  abbrev f_ : ℕ → List ℕ
  f_ = object_words start heads_

  abbrev words_ : List ℕ
  words_ = flat_map f_ (range_with_len 0 objects)

  length-object : (object : ℕ) → length (f_ object) ≡ 1 + body (draw start object)
  length-object object =
      let v : ℕ = draw start object in
      let before : ℕ = drawn_before start (length heads_) object in
      omega (
        arith,
        length-append (map (reference heads_) (draws start before (refs v))) (draws start (before + refs v) (data_words v)),
        length-map (draws start before (refs v)) (reference heads_),
        length-draws start before (refs v),
        length-draws start (before + refs v) (data_words v),
      )

  -- an object stands behind those before it
  length-before : (object : ℕ) → length (flat_map f_ (range_with_len 0 object)) ≡ place start object
  length-before zero = refl
  length-before (suc object) =
      let one : object + 1 ≡ suc object = omega arith in
      omega (
        arith,
        ap (λ n. length (flat_map f_ (range_with_len 0 n))) one,
        ap length (objects_more f_ object),
        length-append (flat_map f_ (range_with_len 0 object)) (f_ object),
        length-object object,
        length-before object,
        place_more start object,
        ap (place start) one,
      )

  module _ (object : ℕ) (below : object < objects) where
    rest_ : List ℕ
    rest_ = flat_map f_ (range_with_len (object + 1) (objects - (object + 1)))

    words_split : words_ ≡ flat_map f_ (range_with_len 0 object) ++ (f_ object ++ rest_)
    unfolding rest_
    words_split =
        let parts : objects ≡ object + suc (objects - (object + 1)) = omega arith in
        let zero_ : 0 + object ≡ object = omega arith in
        ap (λ n. flat_map f_ (range_with_len 0 n)) parts
        ∙ ap (flat_map f_) (range_split 0 object (suc (objects - (object + 1))))
        ∙ ap (λ n. flat_map f_ (range_with_len 0 object ++ range_with_len n (suc (objects - (object + 1))))) zero_
        ∙ flat_map-append f_ (range_with_len 0 object) (range_with_len object (suc (objects - (object + 1))))

    drop-made : drop (place start object) words_ ≡ f_ object ++ rest_
    drop-made =
        ap (drop (place start object)) words_split
        ∙ drop_at (flat_map f_ (range_with_len 0 object)) (f_ object ++ rest_) (place start object) (length-before object)

    header-made : get_or words_ (place start object) 0 ≡ header object (draw start object)
    header-made =
        let same : place start object ≡ place start object + 0 = omega arith in
        ap (λ n. get_or words_ n 0) same ∙ sym (get_or-drop (place start object) words_ 0 0) ∙ ap (λ l. get_or l 0 0) drop-made

    size-made : size_at 1 words_ (place start object) ≡ 1 + body (draw start object)
    size-made = ap (size_of 1) header-made ∙ size_of-header object (draw start object)

    within-made : place start object < length words_
    within-made =
        omega (
          arith,
          ap length words_split,
          length-append (flat_map f_ (range_with_len 0 object)) (f_ object ++ rest_),
          length-append (f_ object) rest_,
          length-before object,
          length-object object,
        )

    references-made : naming_at 1 words_ (place start object)
        ≡ map (reference heads_) (draws start (drawn_before start (length heads_) object) (refs (draw start object)))
    references-made =
        let v : ℕ = draw start object in
        let before : ℕ = drawn_before start (length heads_) object in
        let at : ℕ = place start object in
        let named_ : List ℕ = map (reference heads_) (draws start before (refs v)) in
        let data_ : List ℕ = draws start (before + refs v) (data_words v) in
        let count : names_at 1 words_ at ≡ refs v = ap (names_of 1) header-made ∙ names_of-header object v in
        let many : at + 1 + names_at 1 words_ at - (at + 1) ≡ refs v = omega (arith, count) in
        let behind : drop (at + 1) words_ ≡ named_ ++ (data_ ++ rest_) =
        sym (drop-drop 1 at words_) ∙ ap (drop 1) drop-made ∙ append_assoc named_ data_ rest_ in
        ap (λ n. take n (drop (at + 1) words_)) many ∙ ap (take (refs v)) behind
        ∙ take_at named_ (data_ ++ rest_) (refs v) (length-map (draws start before (refs v)) (reference heads_) ∙ length-draws start before (refs v))

  -- the objects stand end to end
  Stand-made : (object count : ℕ) → object + count ≡ objects
      → Stand 1 words_ (place start object) (map (place start) (range_with_len object count)) (length words_)
  Stand-made object zero all =
      let same : object ≡ objects = omega (arith, all) in
      ap (place start) same ∙ sym (length-before objects)
  Stand-made object (suc count) all =
      let below : object < objects = omega (arith, all) in
      let next_ : place start (object + 1) ≡ place start object + size_at 1 words_ (place start object) =
      place_more start object ∙ ap (λ n. place start object + n) (sym (size-made object below)) in (
        refl,
        within-made object below,
        subst (λ p. Stand 1 words_ p (map (place start) (range_with_len (object + 1) count)) (length words_)) next_ (Stand-made (object + 1) count (omega (arith, all))),
      )

  references_named : EachReferenceNames 1 words_ heads_
  references_named = λ m d below.
      let within : m < objects = omega (arith, below, length-places start objects) in
      let at : get_or heads_ m d ≡ place start m = get_or-map-range_with_len (place start) 0 objects m m d within (omega arith) in
      let are : naming_at 1 words_ (get_or heads_ m d) ≡ map (reference heads_) (draws start (drawn_before start (length heads_) m) (refs (draw start m))) =
      ap (naming_at 1 words_) at ∙ references-made m within in
      subst (All (Names heads_)) (sym are)
      (All-made (Names heads_) (reference heads_) (draws start (drawn_before start (length heads_) m) (refs (draw start m))) (Names-reference heads_))

  roots_named : (before : ℕ) → All (Names heads_) (map (root heads_) (draws start before (min objects 16)))
  roots_named before = elim (cases_lt 0 objects) [
    | inl some_ ↦
        All-made (Names heads_) (root heads_) (draws start before (min objects 16)) (λ drawn. Names-root heads_ drawn (omega (arith, some_, length-places start objects)))
    | inr none_ ↦ λ k d below.
        absurd (omega (arith, below, length-map (draws start before (min objects 16)) (root heads_), length-draws start before (min objects 16)))
  ]

pub made_lawful : (objects seed : ℕ) → objects ≤ 2 ^ 20 → IsLawful (made objects seed)
unfolding made
made_lawful objects seed few =
    let start : ℕ = seed % 2 ^ 31 in
    let before : ℕ = drawn_before start objects objects in
    record {
      known = inl refl;
      few_words = omega (arith, few, length-before start objects objects, bodies_small start objects);
      few_roots = omega (arith, length-map (draws start before (min objects 16)) (root (places start objects)), length-draws start before (min objects 16));
      few_objects = omega (arith, few, length-places start objects);
      fill = Stand-made start objects 0 objects (omega arith);
      references = references_named start objects;
      roots = roots_named start objects before;
    }

-- what was drawn is that heap
module _ (objects seed start last : ℕ) (words roots heads : List ℕ) where
  pub made_is : start ≡ seed % 2 ^ 31 → words ≡ flat_map (object_words start (places start objects)) (range_with_len 0 objects)
      → heads ≡ places start objects → last ≡ after start (drawn_before start objects objects)
      → roots ≡ map (root heads) (draws last 0 (min (length heads) 16))
      → record { format = 1; words = words; roots = roots; heads = heads } ≡ made objects seed
  unfolding made
  made_is starts words_are heads_are lasts roots_are =
      let all : List ℕ = places start objects in
      let before : ℕ = drawn_before start objects objects in
      let none : before + 0 ≡ before = omega arith in
      let named_ : roots ≡ map (root all) (draws start before (min objects 16)) =
      roots_are ∙ ap (λ hs. map (root hs) (draws last 0 (min (length hs) 16))) heads_are
      ∙ ap (λ n. map (root all) (draws last 0 (min n 16))) (length-places start objects)
      ∙ ap (λ n. map (root all) (draws n 0 (min objects 16))) lasts
      ∙ ap (map (root all)) (draws_after start before 0 (min objects 16))
      ∙ ap (λ n. map (root all) (draws start n (min objects 16))) none in
      let f : List ℕ → Heap = λ w. record { format = 1; words = w; roots = roots; heads = heads } in
      let g : List ℕ → Heap = λ r. record { format = 1; words = flat_map (object_words start all) (range_with_len 0 objects); roots = r; heads = heads } in
      let h : List ℕ → Heap = λ p. record { format = 1; words = flat_map (object_words start all) (range_with_len 0 objects); roots = map (root all) (draws start before (min objects 16)); heads = p } in
      let k : ℕ → Heap = λ s. record {
        format = 1;
        words = flat_map (object_words s (places s objects)) (range_with_len 0 objects);
        roots = map (root (places s objects)) (draws s (drawn_before s objects objects) (min objects 16));
        heads = places s objects;
      } in
      ap f words_are ∙ ap g named_ ∙ ap h heads_are ∙ ap k starts
