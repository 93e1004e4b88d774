-- Bytes and the words that they spell.
use Rattle.std.proofs.Common.{◌≡◌, ℕ, ◌+◌, ◌-◌, ◌*◌, ◌^◌, ◌<◌, ◌≤◌, List, [], ◌∷◌, ◌++◌, refl, sym, ap, ◌∙◌, arith, length, get_or, take, drop, append_assoc}
use Rattle.std.proofs.Math.Seq.{take-add}
use Rattle.std.proofs.lemmas.List.{take-append-drop, length-append, append-nil}
use Rattle.std.proofs.lemmas.List.Concat.{flat_map-append}
use Rattle.std.proofs.lemmas.List.Elements.{All-head, All-tail}
use Rattle.std.proofs.lemmas.List.Folds.{drop_split}
use Rattle.std.proofs.lemmas.Nat.{from_le_bytes-to_le_bytes_8}
use Rattle.std.specs.List.{slice_range}
use Rattle.std.specs.Int.{w64, from_le_bytes}
use Rattle.image_reader.specs.Bytes.{magic_bytes, digit_of, word_bytes, spelled, spelling, AreWords, Spells}
use Rattle.image_reader.specs.Fault.{words_said, roots_said}

-- one more word
pub spelled_more : (bytes words : List ℕ) (i word : ℕ) → spelled words ≡ take (8 * i) bytes
    → word_bytes word ≡ slice_range bytes (8 * i) (8 * i + 8) → spelled (words ++ word ∷ []) ≡ take (8 * (i + 1)) bytes
spelled_more bytes words i word before here =
    let step : 8 * (i + 1) ≡ 8 * i + 8 = omega arith in
    let eight : 8 * i + 8 - 8 * i ≡ 8 = omega arith in
    let next : word_bytes word ≡ take 8 (drop (8 * i) bytes) = here ∙ ap (λ n. take n (drop (8 * i) bytes)) eight in
    flat_map-append word_bytes words (word ∷ [])
    ∙ ap (λ z. spelled words ++ z) (append-nil (word_bytes word))
    ∙ ap (λ z. z ++ word_bytes word) before
    ∙ ap (λ z. take (8 * i) bytes ++ z) next
    ∙ sym (take-add (8 * i) 8 bytes)
    ∙ ap (λ n. take n bytes) (sym step)

pub length-spelled : (words : List ℕ) → length (spelled words) ≡ 8 * length words
length-spelled [] = refl
length-spelled (word ∷ words) = omega (arith, length-append (word_bytes word) (spelled words), length-spelled words)

pub length-spelling : (format : ℕ) (words roots : List ℕ) → length (spelling format words roots) ≡ 24 + 8 * (length words + length roots)
length-spelling format words roots =
    omega (
      arith,
      length-append (magic_bytes format ++ word_bytes (length words) ++ word_bytes (length roots) ++ spelled words) (spelled roots),
      length-append (magic_bytes format ++ word_bytes (length words) ++ word_bytes (length roots)) (spelled words),
      length-spelled words,
      length-spelled roots,
    )

-- the five parts of bytes
pub assembled : (bytes head w r ws rs : List ℕ) (end : ℕ) → 24 ≤ end → take 8 bytes ≡ head → slice_range bytes 8 16 ≡ w → slice_range bytes 16 24 ≡ r
    → slice_range bytes 24 end ≡ ws → drop end bytes ≡ rs → bytes ≡ head ++ w ++ r ++ ws ++ rs
assembled bytes head w r ws rs end low is_head is_w is_r is_ws is_rs =
    sym (take-append-drop 8 bytes)
    ∙ ap (λ z. z ++ drop 8 bytes) is_head
    ∙ ap (λ z. head ++ z) (drop_split bytes 8 16 (omega arith) ∙ ap (λ z. z ++ drop 16 bytes) is_w)
    ∙ ap (λ z. head ++ (w ++ z)) (drop_split bytes 16 24 (omega arith) ∙ ap (λ z. z ++ drop 24 bytes) is_r)
    ∙ ap (λ z. head ++ (w ++ (r ++ z))) (drop_split bytes 24 end low ∙ ap (λ z. z ++ drop end bytes) is_ws)
    ∙ ap (λ z. head ++ (w ++ (r ++ (ws ++ z)))) is_rs
    ∙ sym (append_assoc head w (r ++ (ws ++ rs)))
    ∙ sym (append_assoc (head ++ w) r (ws ++ rs))
    ∙ sym (append_assoc (head ++ w ++ r) ws rs)

-- lists of one length, joined, give each
split_same : (a b x y : List ℕ) → length a ≡ length b → a ++ x ≡ b ++ y → (a ≡ b) × (x ≡ y)
split_same [] [] x y e h = (refl, h)
split_same [] (d ∷ b) x y e h = absurd (omega (arith, e))
split_same (c ∷ a) [] x y e h = absurd (omega (arith, e))
split_same (c ∷ a) (d ∷ b) x y e h =
    let heads : c ≡ d = cc in
    let tails : a ++ x ≡ b ++ y = cc in
    let rest = split_same a b x y (omega (arith, e)) tails in
    let same : a ≡ b = rest.0 in
    let last : x ≡ y = rest.1 in
    (cc, last)

number_once : (m n : ℕ) → m < 2 ^ 64 → n < 2 ^ 64 → word_bytes m ≡ word_bytes n → m ≡ n
number_once m n p q e = sym (from_le_bytes-to_le_bytes_8 m p) ∙ ap (from_le_bytes w64) e ∙ from_le_bytes-to_le_bytes_8 n q

spelled_once : (xs ys : List ℕ) → AreWords xs → AreWords ys → spelled xs ≡ spelled ys → xs ≡ ys
spelled_once [] [] p q e = refl
spelled_once [] (y ∷ ys) p q e = absurd (omega (arith, ap length e, length-spelled (y ∷ ys)))
spelled_once (x ∷ xs) [] p q e = absurd (omega (arith, ap length e, length-spelled (x ∷ xs)))
spelled_once (x ∷ xs) (y ∷ ys) p q e =
    let parts = split_same (word_bytes x) (word_bytes y) (spelled xs) (spelled ys) refl e in
    let head : x ≡ y = number_once x y (All-head (λ w. w < 2 ^ 64) x xs p) (All-head (λ w. w < 2 ^ 64) y ys q) parts.0 in
    let tail : xs ≡ ys = spelled_once xs ys (All-tail (λ w. w < 2 ^ 64) x xs p) (All-tail (λ w. w < 2 ^ 64) y ys q) parts.1 in
    cc

-- what the header of spelled bytes says
pub words_said-spelling : (format : ℕ) (words roots : List ℕ) → length words ≤ 2 ^ 22 → words_said (spelling format words roots) ≡ length words
words_said-spelling format words roots few = from_le_bytes-to_le_bytes_8 (length words) (omega arith)

pub roots_said-spelling : (format : ℕ) (words roots : List ℕ) → length roots ≤ 2 ^ 16 → roots_said (spelling format words roots) ≡ length roots
roots_said-spelling format words roots few = from_le_bytes-to_le_bytes_8 (length roots) (omega arith)

-- bytes spell one list of words and one of roots, in one format
pub Spells-once : (bytes : List ℕ) (f : ℕ) (xs rs : List ℕ) (g : ℕ) (ys ss : List ℕ) → Spells bytes f xs rs → Spells bytes g ys ss
    → (f ≡ g) × (xs ≡ ys) × (rs ≡ ss)
Spells-once bytes f xs rs g ys ss a b =
    let digit : digit_of f ≡ digit_of g = ap (λ z. get_or z 7 0) (sym a.spelled_so ∙ b.spelled_so) in
    let count : length xs ≡ length ys =
    sym (ap words_said a.spelled_so ∙ words_said-spelling f xs rs a.few_words) ∙ (ap words_said b.spelled_so ∙ words_said-spelling g ys ss b.few_words) in
    let bodies : spelled xs ++ spelled rs ≡ spelled ys ++ spelled ss = ap (drop 24) (sym a.spelled_so ∙ b.spelled_so) in
    let parts = split_same (spelled xs) (spelled ys) (spelled rs) (spelled ss) (omega (arith, length-spelled xs, length-spelled ys, count)) bodies in
    (omega (arith, digit), spelled_once xs ys a.words_fit b.words_fit parts.0, spelled_once rs ss a.roots_fit b.roots_fit parts.1)
