-- The header of bytes that spell words: what it says, and which bytes it begins with.
use Rattle.std.proofs.Common.{◌≡◌, ◌≢◌, ℕ, ◌+◌, ◌*◌, ◌<◌, List, [], ◌∷◌, inl, refl, sym, ap, subst, ◌∙◌, arith, get_or, length, take}
use Rattle.std.proofs.lemmas.List.{get_or-take, get_or_append_left}
use Rattle.image_core.specs.Header.{IsFormat}
use Rattle.image_reader.specs.Bytes.{name_bytes, magic_bytes, digit_of, Spells}
use Rattle.image_reader.specs.Fault.{format_said, words_said, roots_said, length_said, HasMagic, HasHeader, IsMagicByte, IsOtherMagic}
use Rattle.image_reader.proofs.Spelling.{length-spelling, words_said-spelling, roots_said-spelling}

pub format_said-spelled : (bytes : List ℕ) (format : ℕ) (words roots : List ℕ) → Spells bytes format words roots → format_said bytes ≡ format
format_said-spelled bytes format words roots spells =
    let digit : get_or bytes 7 0 ≡ digit_of format = ap (λ z. get_or z 7 0) spells.spelled_so in
    omega (arith, digit)

pub Spells-header : (bytes : List ℕ) (format : ℕ) (words roots : List ℕ) → Spells bytes format words roots
    → HasHeader bytes × (length bytes ≡ length_said bytes)
Spells-header bytes format words roots spells =
    let f : format_said bytes ≡ format = format_said-spelled bytes format words roots spells in
    let w : words_said bytes ≡ length words = ap words_said spells.spelled_so ∙ words_said-spelling format words roots spells.few_words in
    let r : roots_said bytes ≡ length roots = ap roots_said spells.spelled_so ∙ roots_said-spelling format words roots spells.few_roots in
    let whole : length bytes ≡ 24 + 8 * (length words + length roots) =
    ap length spells.spelled_so ∙ length-spelling format words roots in (
      record {
        begins = record {
          long_enough = omega arith;
          known = subst IsFormat (sym f) spells.known;
          magic_there = ap (take 8) spells.spelled_so ∙ ap magic_bytes (sym f);
        };
        few_words = omega (arith, spells.few_words);
        few_roots = omega (arith, spells.few_roots);
      },
      omega arith,
    )

-- each of the first eight bytes is one of a magic
pub HasMagic-byte : (bytes : List ℕ) (place : ℕ) → HasMagic bytes → place < 8 → IsMagicByte place (get_or bytes place 0)
HasMagic-byte bytes place magic within =
    (format_said bytes, magic.known, sym (get_or-take 8 bytes place 0 within) ∙ ap (λ z. get_or z place 0) magic.magic_there)

-- bytes that are those of the name up to a place, and not there
pub IsOtherMagic-name : (bytes : List ℕ) (place : ℕ) → place < 7 → take place bytes ≡ take place name_bytes
    → get_or bytes place 0 ≢ get_or name_bytes place 0 → IsOtherMagic bytes place
IsOtherMagic-name bytes place within before differs = record {
  within = omega (arith, within);
  differs = λ (format, known, is). differs (is ∙ get_or_append_left name_bytes (digit_of format ∷ []) 0 place within);
  first = λ earlier less. (
    1,
    inl refl,
    sym (get_or-take place bytes earlier 0 less) ∙ ap (λ z. get_or z earlier 0) before ∙ get_or-take place name_bytes earlier 0 less
        ∙ sym (get_or_append_left name_bytes (digit_of 1 ∷ []) 0 earlier (omega (arith, within, less))),
  );
}
