-- How far a cut of a text has come, and what it ends with.
use Rattle.std.proofs.Common.{◌≡◌, ℕ, zero, suc, ◌+◌, ◌<◌, ◌≤◌, Bool, true, false, List, [], ◌∷◌, ◌++◌, cond, eqb, eq-eqb, length, get_or, take, drop, map, append_assoc, ap, sym, refl, ◌∙◌, arith}
use Rattle.std.specs.Prelude.{slice_range, All}
use Rattle.std.specs.List.{slice_split}
use Rattle.std.proofs.lemmas.List.{drop_more, take-take, get_or-take, length-take, map_push, get_or_at, get_or_append_left, length_push, same_from_push}
use Rattle.std.proofs.lemmas.List.Elements.{All-nil, All-push}
use Rattle.std.proofs.lemmas.List.Edits.{between_more, length-between}
use Rattle.std.proofs.lemmas.List.Folds.{drop_split}
use Rattle.std.proofs.lemmas.List.Splits.{slice_split_none, slice_split_at}
use Rattle.std.proofs.lemmas.Slice.{between_is, between_to_end}
use Rattle.std.proofs.Math.Dec.{eqb-suc-zero}
use Rattle.room_script.specs.declared.pieces.Piece.{Piece}
use Rattle.room_script.specs.Lines.{bytes_at, places_of, without_empty_end, lines_of, is_newline, IsRange, StandAt}

-- a range in two, with the byte between them
range_at : (text : List ℕ) (from at to : ℕ) → from ≤ at → at < to → to ≤ length text
    → slice_range text from to ≡ slice_range text from at ++ get_or text at 0 ∷ slice_range text (at + 1) to
range_at text from at to begun before within =
    let long : at < length (take to text) = omega (arith, length-take to text) in
    let front : slice_range (take to text) from at ≡ slice_range text from at =
    between_is (take to text) from at ∙ (ap (drop from) (take-take at to text (omega arith)) ∙ sym (between_is text from at)) in
    let rest : drop at (take to text) ≡ get_or text at 0 ∷ slice_range text (at + 1) to =
    drop_more (take to text) at 0 long ∙ (ap (λ b. b ∷ drop (at + 1) (take to text)) (get_or-take to text at 0 before) ∙ ap (λ more. get_or text at 0 ∷ more) (sym (between_is text (at + 1) to))) in
    between_is text from to ∙ (drop_split (take to text) from at begun ∙ (ap (λ xs. xs ++ drop at (take to text)) front ∙ ap (λ ys. slice_range text from at ++ ys) rest))

-- where the next part would stand
abbrev pub after : ℕ → List (List ℕ) → ℕ
after at [] = at
after at (part ∷ more) = after (at + length part + 1) more

after-push : (at : ℕ) (parts : List (List ℕ)) (part : List ℕ) → after at (parts ++ part ∷ []) ≡ after at parts + length part + 1
after-push at [] part = refl
after-push at (x ∷ parts) part = after-push (at + length x + 1) parts part

places_of-push : (at : ℕ) (parts : List (List ℕ)) (part : List ℕ) →
    places_of at (parts ++ part ∷ []) ≡ places_of at parts ++ (record { from = after at parts; to = after at parts + length part } ∷ [])
places_of-push at [] part = refl
places_of-push at (x ∷ parts) part = ap (λ ps. record { from = at; to = at + length x } ∷ ps) (places_of-push (at + length x + 1) parts part)

abbrev piece_at : ℕ → ℕ → Piece
piece_at from to = record { from = from; to = to }

-- one more piece, where the next part would stand
placed : (text : List ℕ) (start from at : ℕ) (pieces : List Piece) → pieces ≡ places_of start (map (bytes_at text) pieces) → after start (map (bytes_at text) pieces) ≡ from
    → from ≤ at → at ≤ length text → pieces ++ piece_at from at ∷ [] ≡ places_of start (map (bytes_at text) (pieces ++ piece_at from at ∷ []))
placed text start from at pieces places next begun within =
    let next_from = after start (map (bytes_at text) pieces) in
    let ends : at ≡ next_from + length (slice_range text from at) = omega (arith, next, begun, length-between text from at within) in
    let same : piece_at from at ≡ piece_at next_from (next_from + length (slice_range text from at)) =
    ap (λ n. piece_at n at) (sym next) ∙ ap (piece_at next_from) ends in
    rw (map_push (bytes_at text) pieces (piece_at from at), places_of-push start (map (bytes_at text) pieces) (slice_range text from at), ← places)
    (ap (λ piece. pieces ++ piece ∷ []) same)

-- the pieces so far, where the next one begins, and the place that is looked at next
pub record HasCut (test : ℕ → Bool) (text : List ℕ) (whole : Piece) (pieces : List Piece) (from at : ℕ) : Type 0 where
  pub begun : from ≤ at
  pub free : All (λ b. test b ≡ false) (slice_range text from at)
  pub parts : map (bytes_at text) pieces ++ slice_split test (slice_range text from whole.to) ≡ slice_split test (bytes_at text whole)
  pub places : pieces ≡ places_of whole.from (map (bytes_at text) pieces)
  pub next : after whole.from (map (bytes_at text) pieces) ≡ from
  pub within : All (IsRange text) pieces

module _ (test : ℕ → Bool) (text : List ℕ) (whole : Piece) (fits : IsRange text whole) where
  pub cut_none : HasCut test text whole [] whole.from whole.from
  cut_none = record {
    begun = omega arith;
    free = λ k d within. absurd (omega (arith, length-between text whole.from whole.from (omega (arith, fits.ordered, fits.within)), within));
    parts = refl;
    places = refl;
    next = refl;
    within = All-nil (IsRange text);
  }

  -- a byte that is no separator
  pub cut_over : (pieces : List Piece) (from at : ℕ) → HasCut test text whole pieces from at → at < whole.to → test (get_or text at 0) ≡ false
      → HasCut test text whole pieces from (at + 1)
  cut_over pieces from at h before other =
      let inside : at < length text = omega (arith, fits.within) in
      record {
        begun = omega (arith, h.begun);
        free = rw (between_more text from at 0 h.begun inside) (All-push (λ b. test b ≡ false) _ _ h.free other);
        parts = h.parts;
        places = h.places;
        next = h.next;
        within = h.within;
      }

  -- a separator ends a piece
  pub cut_at : (pieces : List Piece) (from at : ℕ) → HasCut test text whole pieces from at → at < whole.to → test (get_or text at 0) ≡ true
      → HasCut test text whole (pieces ++ record { from = from; to = at } ∷ []) (at + 1) (at + 1)
  cut_at pieces from at h before found =
      let inside : at < length text = omega (arith, fits.within) in
      let split : slice_split test (slice_range text from whole.to) ≡ slice_range text from at ∷ slice_split test (slice_range text (at + 1) whole.to) =
      ap (slice_split test) (range_at text from at whole.to h.begun before fits.within) ∙ slice_split_at test (slice_range text from at) (get_or text at 0) (slice_range text (at + 1) whole.to) h.free found in
      record {
        begun = omega arith;
        free = λ k d within. absurd (omega (arith, length-between text (at + 1) (at + 1) (omega arith), within));
        parts = rw (map_push (bytes_at text) pieces (piece_at from at), append_assoc) (ap (λ xs. map (bytes_at text) pieces ++ xs) (sym split) ∙ h.parts);
        places = placed text whole.from from at pieces h.places h.next h.begun (omega arith);
        next = rw (map_push (bytes_at text) pieces (piece_at from at), after-push) (omega (arith, h.next, h.begun, length-between text from at (omega arith)));
        within = All-push (IsRange text) pieces (piece_at from at) h.within (record { ordered = h.begun; within = omega arith });
      }

  -- the last piece goes up to the end
  pub cut_all : (pieces : List Piece) (from : ℕ) → HasCut test text whole pieces from whole.to → StandAt text whole.from (slice_split test (bytes_at text whole)) (pieces ++ record { from = from; to = whole.to } ∷ [])
  cut_all pieces from h =
      let parts : map (bytes_at text) (pieces ++ piece_at from whole.to ∷ []) ≡ slice_split test (bytes_at text whole) =
      map_push (bytes_at text) pieces (piece_at from whole.to) ∙ (ap (λ xs. map (bytes_at text) pieces ++ xs) (sym (slice_split_none test (slice_range text from whole.to) h.free)) ∙ h.parts) in
      record {
        bytes = parts;
        places = rw (← parts) (placed text whole.from from whole.to pieces h.places h.next h.begun fits.within);
        within = All-push (IsRange text) pieces (piece_at from whole.to) h.within (record { ordered = h.begun; within = fits.within });
      }

cons-cond : {X : Type 0} (x : X) (b : Bool) (xs ys : List X) → x ∷ cond b xs ys ≡ cond b (x ∷ xs) (x ∷ ys)
cons-cond x true xs ys = refl
cons-cond x false xs ys = refl

without_empty_end-push : (parts : List (List ℕ)) (part : List ℕ) → without_empty_end (parts ++ part ∷ []) ≡ cond (eqb (length part) 0) parts (parts ++ part ∷ [])
without_empty_end-push [] part = refl
without_empty_end-push (x ∷ []) part = cons-cond x (eqb (length part) 0) [] (part ∷ [])
without_empty_end-push (x ∷ y ∷ more) part = ap (λ xs. x ∷ xs) (without_empty_end-push (y ∷ more) part) ∙ cons-cond x (eqb (length part) 0) (y ∷ more) (y ∷ more ++ part ∷ [])

-- the lines, where the last piece is known
lines_of-cut : (text : List ℕ) (pieces : List Piece) (last : Piece) → StandAt text 0 (slice_split is_newline text) (pieces ++ last ∷ [])
    → lines_of text ≡ cond (eqb (length (bytes_at text last)) 0) (map (bytes_at text) pieces) (slice_split is_newline text)
lines_of-cut text pieces last h =
    let parts : slice_split is_newline text ≡ map (bytes_at text) pieces ++ bytes_at text last ∷ [] = sym h.bytes ∙ map_push (bytes_at text) pieces last in
    ap without_empty_end parts ∙ (without_empty_end-push (map (bytes_at text) pieces) (bytes_at text last) ∙ ap (cond (eqb (length (bytes_at text last)) 0) (map (bytes_at text) pieces)) (sym parts))

last_range : (text : List ℕ) (pieces : List Piece) (last : Piece) → All (IsRange text) (pieces ++ last ∷ []) → IsRange text last
last_range text pieces last all = rw (get_or_at pieces last [] last (length pieces) refl) at (all (length pieces) last (omega (arith, length_push pieces last)))

eqb_above : (n : ℕ) → 0 < n → eqb n 0 ≡ false
eqb_above zero above = absurd (omega arith)
eqb_above (suc n) above = eqb-suc-zero n

-- a rest with bytes is the last line
pub lines_whole : (text : List ℕ) (pieces : List Piece) (last : Piece) → last.from < last.to
    → StandAt text 0 (slice_split is_newline text) (pieces ++ last ∷ []) → StandAt text 0 (lines_of text) (pieces ++ last ∷ [])
lines_whole text pieces last some h =
    let range = last_range text pieces last h.within in
    let long : eqb (length (bytes_at text last)) 0 ≡ false = eqb_above _ (omega (arith, length-between text last.from last.to range.within)) in
    rw (lines_of-cut text pieces last h, long) h

-- an empty rest is none
pub lines_ended : (text : List ℕ) (pieces : List Piece) (last : Piece) → last.to ≤ last.from
    → StandAt text 0 (slice_split is_newline text) (pieces ++ last ∷ []) → StandAt text 0 (lines_of text) pieces
lines_ended text pieces last none h =
    let range = last_range text pieces last h.within in
    let short : eqb (length (bytes_at text last)) 0 ≡ true = eq-eqb _ _ (omega (arith, length-between text last.from last.to range.within)) in
    let lines : lines_of text ≡ map (bytes_at text) pieces =
    lines_of-cut text pieces last h ∙ ap (λ b. cond b (map (bytes_at text) pieces) (slice_split is_newline text)) short in
    let placed_all : pieces ++ last ∷ [] ≡ places_of 0 (map (bytes_at text) pieces) ++ piece_at (after 0 (map (bytes_at text) pieces)) (after 0 (map (bytes_at text) pieces) + length (bytes_at text last)) ∷ [] =
    h.places ∙ (ap (places_of 0) (sym h.bytes ∙ map_push (bytes_at text) pieces last) ∙ places_of-push 0 (map (bytes_at text) pieces) (bytes_at text last)) in
    record {
      bytes = sym lines;
      places = rw lines (same_from_push pieces (places_of 0 (map (bytes_at text) pieces)) last _ placed_all).0;
      within = λ k d within. rw (← get_or_append_left pieces (last ∷ []) d k within) (h.within k d (omega (arith, length_push pieces last)));
    }

-- the whole of a text
pub all_bytes : (text : List ℕ) → slice_range text 0 (length text) ≡ text
all_bytes text = between_to_end text 0 (length text) (omega arith)
