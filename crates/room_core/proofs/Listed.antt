-- The words as one list: a word is read and written at its place.
use Rattle.std.proofs.Common.{◌≡◌, ℕ, suc, ◌+◌, ◌-◌, ◌*◌, ◌<◌, Bool, true, false, cond, List, ◌∷◌, ◌++◌, length, get_or, set, refl, sym, ap, ◌∙◌, arith, eqb}
use Rattle.std.proofs.lemmas.List.{set-get_or, set-append_left, set-append_right, get_or_append_left, get_or-append_right, length-append}
use Rattle.room_core.specs.declared.words.Word.{Word}
use Rattle.room_core.specs.declared.words.Word.TheVariants.{Wait, Grant, Done, Active}
use Rattle.room_core.specs.declared.words.Touch.TheVariants.{Swap}
use Rattle.room_core.specs.Words.{Words, put, touched, HasWord, held, listed, place}
use Rattle.room_core.specs.Moves.{Kind, Adds, Loads, Stores, Swaps, touch_of, value_of}

pub record Sized (m : ℕ) (s : Words) : Type 0 where
  pub wait : length s.wait ≡ m
  pub grant : length s.grant ≡ m
  pub done : length s.done ≡ m

-- an exchange is of the active word alone
abbrev pub IsApt : Kind → Word → Type 0
IsApt (Swaps old new) Active = Unit {0}
IsApt (Swaps old new) _ = ⊥
IsApt _ _ = Unit {0}

module _ (m : ℕ) (s : Words) (z : Sized m s) where
  pub length-listed : length (listed s) ≡ 1 + 3 * m
  length-listed =
      omega (
        arith,
        length-append s.wait (s.grant ++ s.done),
        length-append s.grant s.done,
        z.wait,
        z.grant,
        z.done,
      )

  wait_get : (r : ℕ) → r < m → get_or (listed s) (1 + r) 0 ≡ get_or s.wait r 0
  wait_get r h =
      let e : 1 + r ≡ suc r = omega arith in
      let w = z.wait in
      ap (λ (i : ℕ). get_or (listed s) i 0) e
      ∙ get_or_append_left s.wait (s.grant ++ s.done) 0 r (omega arith)

  grant_get : (r : ℕ) → r < m → get_or (listed s) (1 + m + r) 0 ≡ get_or s.grant r 0
  grant_get r h =
      let e : 1 + m + r ≡ suc (m + r) = omega arith in
      let w = z.wait in let g = z.grant in let back : (m + r) - m ≡ r = omega arith in
      ap (λ (i : ℕ). get_or (listed s) i 0) e
      ∙ get_or-append_right s.wait (s.grant ++ s.done) m (m + r) 0 w (omega arith)
      ∙ ap (λ (i : ℕ). get_or (s.grant ++ s.done) i 0) back
      ∙ get_or_append_left s.grant s.done 0 r (omega arith)

  done_get : (r : ℕ) → r < m → get_or (listed s) (1 + 2 * m + r) 0 ≡ get_or s.done r 0
  done_get r h =
      let e : 1 + 2 * m + r ≡ suc (m + (m + r)) = omega arith in
      let w = z.wait in
      let g = z.grant in
      let back : (m + (m + r)) - m ≡ m + r = omega arith in
      let back' : (m + r) - m ≡ r = omega arith in
      ap (λ (i : ℕ). get_or (listed s) i 0) e
      ∙ get_or-append_right s.wait (s.grant ++ s.done) m (m + (m + r)) 0 w (omega arith)
      ∙ ap (λ (i : ℕ). get_or (s.grant ++ s.done) i 0) back
      ∙ get_or-append_right s.grant s.done m (m + r) 0 g (omega arith)
      ∙ ap (λ (i : ℕ). get_or s.done i 0) back'

  pub held_listed : (word : Word) → HasWord s word
      → get_or (listed s) (place m word) 0 ≡ held s word
  held_listed Active h = refl
  held_listed (Wait r) h = let w = z.wait in wait_get r (omega arith)
  held_listed (Grant r) h = let w = z.grant in grant_get r (omega arith)
  held_listed (Done r) h = let w = z.done in done_get r (omega arith)

  wait_put : (r v : ℕ) → r < m
      → listed (record s { wait = set s.wait r v }) ≡ set (listed s) (1 + r) v
  wait_put r v h = let e : suc r ≡ 1 + r = omega arith in let w = z.wait in
      ap (λ (l : List ℕ). s.active ∷ l)
      (sym (set-append_left s.wait (s.grant ++ s.done) r v (omega arith)))
      ∙ ap (λ (i : ℕ). set (listed s) i v) e

  grant_put : (r v : ℕ) → r < m
      → listed (record s { grant = set s.grant r v }) ≡ set (listed s) (1 + m + r) v
  grant_put r v h =
      let e : suc (m + r) ≡ 1 + m + r = omega arith in
      let w = z.wait in let g = z.grant in let back : r ≡ (m + r) - m = omega arith in
      ap (λ (l : List ℕ). s.active ∷ (s.wait ++ l))
      (sym (set-append_left s.grant s.done r v (omega arith))
      ∙ ap (λ (i : ℕ). set (s.grant ++ s.done) i v) back)
      ∙ ap (λ (l : List ℕ). s.active ∷ l)
      (sym (set-append_right s.wait (s.grant ++ s.done) m (m + r) v w (omega arith)))
      ∙ ap (λ (i : ℕ). set (listed s) i v) e

  done_put : (r v : ℕ) → r < m
      → listed (record s { done = set s.done r v }) ≡ set (listed s) (1 + 2 * m + r) v
  done_put r v h =
      let e : suc (m + (m + r)) ≡ 1 + 2 * m + r = omega arith in
      let w = z.wait in
      let g = z.grant in
      let back : r ≡ (m + r) - m = omega arith in
      let back' : m + r ≡ (m + (m + r)) - m = omega arith in
      ap (λ (l : List ℕ). s.active ∷ (s.wait ++ l))
      (ap (λ (i : ℕ). s.grant ++ set s.done i v) back
      ∙ sym (set-append_right s.grant s.done m (m + r) v g (omega arith))
      ∙ ap (λ (i : ℕ). set (s.grant ++ s.done) i v) back')
      ∙ ap (λ (l : List ℕ). s.active ∷ l)
      (sym (set-append_right s.wait (s.grant ++ s.done) m (m + (m + r)) v w (omega arith)))
      ∙ ap (λ (i : ℕ). set (listed s) i v) e

  pub put_listed : (word : Word) (v : ℕ) → HasWord s word
      → listed (put s word v) ≡ set (listed s) (place m word) v
  put_listed Active v h = refl
  put_listed (Wait r) v h = let w = z.wait in wait_put r v (omega arith)
  put_listed (Grant r) v h = let w = z.grant in grant_put r v (omega arith)
  put_listed (Done r) v h = let w = z.done in done_put r v (omega arith)

  pub place_below : (word : Word) → HasWord s word → place m word < 1 + 3 * m
  place_below Active h = omega arith
  place_below (Wait r) h = let w = z.wait in omega arith
  place_below (Grant r) h = let w = z.grant in omega arith
  place_below (Done r) h = let w = z.done in omega arith

  swapped : (b : Bool) (old new : ℕ)
      → listed (touched s (Swap s.active new b)) ≡ set (listed s) 0 (cond b new s.active)
  swapped true old new = refl
  swapped false old new = refl

  pub touched_listed : (kind : Kind) (word : Word) → HasWord s word → IsApt kind word
      → listed (touched s (touch_of kind word (held s word))) ≡ set (listed s) (place m word) (value_of kind (held s word))
  touched_listed Adds word h a = put_listed word (held s word + 1) h
  touched_listed Loads word h a =
      sym
      (ap (λ (x : ℕ). set (listed s) (place m word) x) (sym (held_listed word h))
      ∙ set-get_or (listed s) (place m word) 0)
  touched_listed (Stores v) word h a = put_listed word v h
  touched_listed (Swaps old new) Active h a = swapped (eqb s.active old) old new
  touched_listed (Swaps old new) (Wait r) h a = absurd a
  touched_listed (Swaps old new) (Grant r) h a = absurd a
  touched_listed (Swaps old new) (Done r) h a = absurd a
