-- The slide, piece by piece.
use Rattle.std.proofs.Common.{◌≡◌, ℕ, zero, suc, ◌+◌, ◌-◌, ◌*◌, ◌≤◌, min, List, [], ◌∷◌, ◌++◌, Bool, true, false, refl, sym, ap, ap₂, ◌∙◌, arith, length, take, drop}
use Rattle.std.proofs.lemmas.List.{drop-drop, drop_all, take_min, drop_min, length-drop, length-take}
use Rattle.std.proofs.lemmas.List.Concat.{flat_map-append}
use Rattle.std.proofs.lemmas.List.Elements.{All-take, All-drop}
use Rattle.std.specs.List.{flat_map, range_with_len, All}
use Rattle.image_core.specs.Heap.{Heap}
use Rattle.image_slide.specs.Slide.{slide, kept, moved}
use Rattle.image_slide.specs.Pieces.{pieces_of, in_piece, kept_in, piece_words}
use Rattle.image_slide.proofs.Kept.{kept-unmarked}

-- what is kept of the first ones, and what is kept of the others
kept_split : (i : ℕ) (heads : List ℕ) (marks : List Bool)
    → kept heads marks ≡ kept (take i heads) (take i marks) ++ kept (drop i heads) (drop i marks)
kept_split zero heads marks = refl
kept_split (suc i) [] marks = refl
kept_split (suc i) (head ∷ heads) [] = sym (kept-unmarked (drop i heads))
kept_split (suc i) (head ∷ heads) (true ∷ marks) = ap (λ l. head ∷ l) (kept_split i heads marks)
kept_split (suc i) (head ∷ heads) (false ∷ marks) = kept_split i heads marks

module _ (f : ℕ → List ℕ) (heads : List ℕ) (marks : List Bool) where
  abbrev pub of_piece : ℕ → List ℕ
  of_piece piece = flat_map f (kept_in heads marks piece)

  next : {A : Type 0} (a : ℕ) (xs : List A) → drop 256 (drop (256 * a) xs) ≡ drop (256 * (a + 1)) xs
  next a xs =
      let on : 256 * a + 256 ≡ 256 * (a + 1) = omega arith in
      drop-drop 256 (256 * a) xs ∙ ap (λ k. drop k xs) on

  from_piece : (n a : ℕ) → length heads ≤ 256 * (a + n)
      → flat_map f (kept (drop (256 * a) heads) (drop (256 * a) marks)) ≡ flat_map of_piece (range_with_len a n)
  from_piece zero a all =
      ap (λ l. flat_map f (kept l (drop (256 * a) marks))) (drop_all (256 * a) heads (omega (arith, all)))
  from_piece (suc n) a all =
      ap (flat_map f) (kept_split 256 (drop (256 * a) heads) (drop (256 * a) marks))
      ∙ (flat_map-append f (kept_in heads marks a) (kept (drop 256 (drop (256 * a) heads)) (drop 256 (drop (256 * a) marks)))
      ∙ (ap₂ (λ h m. of_piece a ++ flat_map f (kept h m)) (next a heads) (next a marks)
      ∙ ap (λ l. of_piece a ++ l) (from_piece n (a + 1) (omega (arith, all)))))

  -- What comes of the marked objects comes of those of each piece, in the order of the pieces.
  pub by_pieces : (n : ℕ) → length heads ≤ 256 * n → flat_map f (kept heads marks) ≡ flat_map of_piece (range_with_len 0 n)
  by_pieces n all = from_piece n 0 (omega (arith, all))

-- there are enough pieces for all objects
pub enough : (objects : ℕ) → objects ≤ 256 * pieces_of objects
enough objects = omega arith

pub slide-pieces : (heap : Heap) (marks : List Bool)
    → (slide heap marks).words ≡ flat_map (piece_words heap marks) (range_with_len 0 (pieces_of (length heap.heads)))
slide-pieces heap marks =
    by_pieces (moved heap.format heap.words (kept heap.heads marks)) heap.heads marks (pieces_of (length heap.heads)) (enough (length heap.heads))

-- a range that is cut to the list
pub clipped : {A : Type 0} (n from : ℕ) (xs : List A)
    → take (min (from + n) (length xs) - min from (length xs)) (drop (min from (length xs)) xs) ≡ take n (drop from xs)
clipped n from xs =
    let count : min (from + n) (length xs) - min from (length xs) ≡ min n (length (drop from xs)) = omega (arith, length-drop from xs) in
    ap₂ (λ k l. take k l) count (drop_min from xs) ∙ take_min n (drop from xs)

-- what holds of all places holds of those of a piece
pub in_piece_all : (P : ℕ → Type 0) (xs : List ℕ) (piece : ℕ) → All P xs → All P (in_piece piece xs)
in_piece_all P xs piece all = All-take P 256 (drop (256 * piece) xs) (All-drop P (256 * piece) xs all)

-- which are not more
pub in_piece_few : {A : Type 0} (xs : List A) (piece : ℕ) → length (in_piece piece xs) ≤ length xs
in_piece_few xs piece = omega (arith, length-take 256 (drop (256 * piece) xs), length-drop (256 * piece) xs)
