-- Numbers after a word, and two numbers with a space between them.
use Rattle.std.proofs.Common.{◌≡◌, ℕ, ◌+◌, ◌<◌, ◌↔◌, List, ◌∷◌, ◌++◌, cond, length, get_or, take, drop, Option, subst, Some, None, true, false, ap, sym, refl, ◌∙◌, arith}
use Rattle.std.specs.Prelude.{decimal, All, position, slice_range}
use Rattle.std.specs.List.{slice_split, position_or_len}
use Rattle.std.proofs.lemmas.Bool.{lt-ltb}
use Rattle.std.proofs.lemmas.Option.{none-some, same_Some, some_pair_parts}
use Rattle.std.proofs.lemmas.List.Sums.{position_or_len_is}
use Rattle.std.proofs.lemmas.List.{append_cancel_left, get_or_at, length-append, drop_more, take-append-drop, get_or-take, length-take, take_rest, get_or_append_left}
use Rattle.std.proofs.lemmas.List.Quantifiers.{position-Some}
use Rattle.std.proofs.lemmas.List.Elements.{All-from_get_or}
use Rattle.std.proofs.lemmas.Bool.Decides.{nat_tests}
use Rattle.std.proofs.lemmas.List.Splits.{slice_split_at}
use Rattle.room_script.specs.Lines.{is_space}
use Rattle.room_script.specs.Numbers.{IsNumber, IsNumberAfter, IsTwoNumbers}
use Rattle.room_script.proofs.Decimals.{decimal_unspaced}

pub after_word : (word bytes rest : List ℕ) (n : ℕ) → bytes ≡ word ++ rest → IsNumber rest n ↔ IsNumberAfter word bytes n
after_word word bytes rest n e = (
  λ is. record { fits = is.fits; digits = e ∙ ap (λ xs. word ++ xs) is.digits },
  λ is. record { fits = is.fits; digits = append_cancel_left word rest (decimal n) (sym e ∙ is.digits) },
)

-- the number before the first space, and the one after it
pub two_at : (front rest : List ℕ) (a b : ℕ) → All (λ x. is_space x ≡ false) front → IsTwoNumbers (front ++ 32 ∷ rest) a b → IsNumber front a × IsNumber rest b
two_at front rest a b unspaced is =
    let cuts : front ∷ slice_split is_space rest ≡ decimal a ∷ slice_split is_space (decimal b) =
    sym (slice_split_at is_space front 32 rest unspaced refl) ∙ (ap (slice_split is_space) is.digits ∙ slice_split_at is_space (decimal a) 32 (decimal b) (decimal_unspaced a is.first_fits) refl) in
    let first : front ≡ decimal a = cc in
    let both : front ++ 32 ∷ rest ≡ front ++ 32 ∷ decimal b = is.digits ∙ ap (λ xs. xs ++ 32 ∷ decimal b) (sym first) in
    let second : rest ≡ decimal b = ap (drop 1) (append_cancel_left front (32 ∷ rest) (32 ∷ decimal b) both) in
    (record { fits = is.first_fits; digits = first }, record { fits = is.second_fits; digits = second })

pub two_from : (front rest : List ℕ) (a b : ℕ) → IsNumber front a → IsNumber rest b → IsTwoNumbers (front ++ 32 ∷ rest) a b
two_from front rest a b first second = record {
  first_fits = first.fits;
  second_fits = second.fits;
  digits = ap (λ xs. xs ++ 32 ∷ rest) first.digits ∙ ap (λ xs. decimal a ++ 32 ∷ xs) second.digits;
}

eqb-eq_at : (bytes : List ℕ) (s : ℕ) → is_space (get_or bytes s 0) ≡ true → get_or bytes s 0 ≡ 32
eqb-eq_at bytes s found = grind (arith, nat_tests)

-- two numbers by the first space
pub two_split : (bytes : List ℕ) (s a b : ℕ) → Some s ≡ position is_space bytes → IsTwoNumbers bytes a b ↔ (IsNumber (take s bytes) a × IsNumber (slice_range bytes (s + 1) (length bytes)) b)
two_split bytes s a b found =
    let first = position-Some is_space bytes s 0 (sym found) in
    let unspaced : All (λ x. is_space x ≡ false) (take s bytes) =
    All-from_get_or (λ x. is_space x ≡ false) (take s bytes) 0 (λ i within. let before : i < s = omega (arith, length-take s bytes) in rw (get_or-take s bytes i 0 before) (first.2 i before)) in
    let cut : bytes ≡ take s bytes ++ 32 ∷ slice_range bytes (s + 1) (length bytes) =
    sym (take-append-drop s bytes) ∙ ap (λ xs. take s bytes ++ xs) (drop_more bytes s 0 first.0
    ∙ (ap (λ x. x ∷ drop (s + 1) bytes) (eqb-eq_at bytes s first.1) ∙ ap (λ xs. 32 ∷ xs) (sym (take_rest bytes (s + 1))))) in (
      λ is. two_at (take s bytes) (slice_range bytes (s + 1) (length bytes)) a b unspaced (subst (λ xs. IsTwoNumbers xs a b) cut is),
      λ both. subst (λ xs. IsTwoNumbers xs a b) (sym cut) (two_from (take s bytes) (slice_range bytes (s + 1) (length bytes)) a b both.0 both.1),
    )

-- what is read on both sides of the space
pub two_read : (bytes front rest : List ℕ) (x y a b : ℕ) → IsTwoNumbers bytes a b ↔ (IsNumber front a × IsNumber rest b)
    → (Some x ≡ Some a) ↔ IsNumber front a → (Some y ≡ Some b) ↔ IsNumber rest b → (◌≡◌ {A = Option (ℕ × ℕ)} (Some (x, y)) (Some (a, b))) ↔ IsTwoNumbers bytes a b
two_read bytes front rest x y a b split first second = (
  λ e. let parts = some_pair_parts x a y b e in split.1 (first.0 (ap Some parts.0), second.0 (ap Some parts.1)),
  λ is.
      let parts = split.0 is in
      let left = same_Some x a (first.1 parts.0) in
      let right = same_Some y b (second.1 parts.1) in
      ap (λ u. Some (u, y)) left ∙ ap (λ v. Some (a, v)) right,
)

-- without a space there are none
pub no_two : (bytes : List ℕ) (a b : ℕ) → None ≡ position is_space bytes → IsTwoNumbers bytes a b → ⊥
no_two bytes a b none is =
    let size = ap length is.digits ∙ length-append (decimal a) (32 ∷ decimal b) in
    let unspaced = decimal_unspaced a is.first_fits in
    let at : position_or_len is_space bytes ≡ length (decimal a) =
    position_or_len_is is_space bytes (length (decimal a)) 0 (omega (arith, size))
    (λ k before. rw (is.digits, get_or_append_left (decimal a) (32 ∷ decimal b) 0 k before) (unspaced k 0 before))
    (λ within. rw (is.digits, get_or_at (decimal a) 32 (decimal b) 0 (length (decimal a)) refl) refl) in
    none-some (position_or_len is_space bytes) (none ∙ ap (λ t. cond t (Some (position_or_len is_space bytes)) None) (lt-ltb _ _ (omega (arith, at, size))))
