-- What the digits of a number are.
use Rattle.std.proofs.Common.{◌≡◌, ◌≢◌, ℕ, zero, suc, ◌<◌, ◌≤◌, ◌^◌, ◌↔◌, List, [], ◌∷◌, ◌++◌, length, get_or, drop, Some, None, Result, Ok, Err, false, ap, sym, ◌∙◌, arith}
use Rattle.std.specs.Prelude.{decimal, All}
use Rattle.std.specs.Int.{IsInRange}
use Rattle.std.specs.Result.{result_ok}
use Rattle.std.specs.Str.Parse.{AllDigits, digits_value, ParsesUnsigned}
use Rattle.std.proofs.lemmas.Fmt.{digits_decimal, digits_value-decimal, decimal-digits_value, decimal_nonempty, first_decimal, decimal_digit, IsAscii-decimal}
use Rattle.std.proofs.lemmas.Str.Parse.{IsNumeralModel, numerals_by_value, tells_digits, digit_at, parse_plain}
use Rattle.std.proofs.lemmas.Str.{IsUtf8-from_ascii}
use Rattle.std.specs.Str.{IsUtf8}
use Rattle.std.proofs.lemmas.List.Elements.{All-from_get_or}
use Rattle.std.proofs.lemmas.Bool.Decides.{nat_tests}
use Rattle.room_script.specs.Numbers.{IsNumber}
use Rattle.room_script.specs.Lines.{is_space}

model : IsNumeralModel (AllDigits 10) (digits_value 10)
model = numerals_by_value (AllDigits 10) tells_digits

-- each byte is one of 48 to 57
pub digit_of : (n i : ℕ) → n < 2 ^ 64 → i < length (decimal n) → IsInRange 48 57 (get_or (decimal n) i 0)
digit_of n i small within = digit_at (decimal n) i (digits_decimal model n small) within

-- a number begins with a digit, and with a zero only where it is `0` alone
pub no_sign : (bytes : List ℕ) (n : ℕ) → IsNumber bytes n → get_or bytes 0 0 ≢ 43
no_sign bytes n is signed =
    let first = digit_of n 0 is.fits (decimal_nonempty n is.fits) in
    let same = ap (λ xs. get_or xs 0 0) is.digits in
    omega (arith, first, same, signed)

pub no_padding : (bytes : List ℕ) (n : ℕ) → IsNumber bytes n → get_or bytes 0 0 ≡ 48 → length bytes ≤ 1
no_padding bytes zero is zero_first = let same = ap length (is.digits ∙ decimal_digit 0 (omega arith)) in omega (arith, same)
no_padding bytes (suc n) is zero_first =
    let above = first_decimal (suc n) (omega arith) is.fits in
    let same = ap (λ xs. get_or xs 0 0) is.digits in
    absurd (omega (arith, above, same, zero_first))

-- the bytes of a number are digits, and their value is the number
reads : (bytes : List ℕ) (n : ℕ) → IsNumber bytes n → AllDigits 10 bytes × (0 < length bytes) × (digits_value 10 bytes < 2 ^ 64)
reads bytes n is = rw is.digits (
  digits_decimal model n is.fits,
  decimal_nonempty n is.fits,
  rw (digits_value-decimal model n is.fits) is.fits,
)

pub value_of : (bytes : List ℕ) (n : ℕ) → IsNumber bytes n → digits_value 10 bytes ≡ n
value_of bytes n is = rw is.digits (digits_value-decimal model n is.fits)

pub IsNumber-parsed : {E : Type 0} (bytes : List ℕ) (r : Result ℕ E) → ParsesUnsigned 64 10 bytes r → get_or bytes 0 0 ≢ 43 → (get_or bytes 0 0 ≡ 48 → length bytes ≤ 1)
    → (n : ℕ) → (result_ok r ≡ Some n) ↔ IsNumber bytes n
IsNumber-parsed {E} bytes (Ok v) parsed unsigned unpadded n =
    let said = parse_plain model {E = E} 64 bytes (Ok v) parsed unsigned in
    let spelled = decimal-digits_value model bytes said.0.0 said.0.1 (λ e. let most = unpadded e in omega (arith, said.0.1)) said.0.2 in
    (λ e. let same : v ≡ n = cc in record { fits = omega (arith, said.0.2, said.1); digits = sym spelled ∙ ap decimal (sym said.1 ∙ same) }, λ is. ap Some (said.1 ∙ value_of bytes n is))
IsNumber-parsed {E} bytes (Err e) parsed unsigned unpadded n = (λ none. cc, λ is. absurd (parse_plain model {E = E} 64 bytes (Err e) parsed unsigned (reads bytes n is)))

-- where the bytes spell no number, none is answered
pub IsNumber-none : (bytes : List ℕ) → ((n : ℕ) → IsNumber bytes n → ⊥) → (n : ℕ) → (None ≡ Some n) ↔ IsNumber bytes n
IsNumber-none bytes never n = (λ e. cc, λ is. absurd (never n is))

-- the digits are text
pub IsUtf8-number : (bytes : List ℕ) (n : ℕ) → IsNumber bytes n → IsUtf8 bytes
IsUtf8-number bytes n is = rw is.digits (IsUtf8-from_ascii (decimal n) (IsAscii-decimal n is.fits))

-- a list by its first byte
pub first_byte : (bytes : List ℕ) (b : ℕ) → 0 < b → get_or bytes 0 0 ≡ b → bytes ≡ (b ∷ []) ++ drop 1 bytes
first_byte [] b some first = absurd (omega (arith, first))
first_byte (x ∷ xs) b some first = ap (λ y. y ∷ xs) first

is_space_above : (b : ℕ) → 32 < b → is_space b ≡ false
is_space_above b above = grind (arith, nat_tests)

-- no digit is a space
pub decimal_unspaced : (n : ℕ) → n < 2 ^ 64 → All (λ b. is_space b ≡ false) (decimal n)
decimal_unspaced n small = All-from_get_or (λ b. is_space b ≡ false) (decimal n) 0 (λ i within. is_space_above _ (omega (arith, (digit_of n i small within).0)))
