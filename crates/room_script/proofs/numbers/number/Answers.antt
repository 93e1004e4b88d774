use Rattle.std.proofs.Common.{◌≡◌, ◌≢◌, ◌≤◌, ◌∷◌, [], inl, inr, length, get_or, drop, arith, ap, sym, ◌∙◌}
use Rattle.std.proofs.lemmas.Bool.{cases_lt, false≢true}
use Rattle.std.proofs.lemmas.Slice.Eq.{starts_is}
use Rattle.std.proofs.lemmas.Bool.Decides.{Decides-eqb}
use Rattle.room_script.proofs.Decimals.{no_sign, no_padding, IsNumber-parsed, IsNumber-none, IsUtf8-number, first_byte}
use Rattle.room_script.proofs.numbers.number.Goals as goal

pub returns-then-starts_with : goal.returns-then-starts_with
returns-then-starts_with c =
    let begins = (starts_is Decides-eqb c.args.bytes.now (43 ∷ []) _ c.starts_with.ensures.value).0 c.if-starts_with.true in
    IsNumber-none c.args.bytes.now (λ n is. no_sign c.args.bytes.now n is (ap (λ xs. get_or xs 0 0) begins))

pub returns-then-is_padded : goal.returns-then-is_padded
returns-then-is_padded c =
    let padded = c.is_padded.ensures.0 c.if-is_padded.true in
    IsNumber-none c.args.bytes.now (λ n is. omega (arith, padded.0, no_padding c.args.bytes.now n is padded.1))

unpadded : (c : goal.After-ok) → get_or c.args.bytes.now 0 0 ≡ 48 → length c.args.bytes.now ≤ 1
unpadded c zero_first =
    elim (cases_lt 1 (length c.args.bytes.now)) [
      | inl long ↦ absurd (false≢true (sym c.if-is_padded.false ∙ c.is_padded.ensures.1 (long, zero_first)))
      | inr short ↦ short
    ]

unsigned : (c : goal.After-ok) → get_or c.args.bytes.now 0 0 ≢ 43
unsigned c plus =
    let tested = starts_is Decides-eqb c.args.bytes.now (43 ∷ []) _ c.starts_with.ensures.value in
    false≢true (sym c.if-starts_with.false ∙ tested.1 (drop 1 c.args.bytes.now) (first_byte c.args.bytes.now 43 (omega arith) plus))

pub returns-in-Ok : goal.returns-in-Ok
returns-in-Ok c =
    let parsed = rw c.in-Ok.ensures.cases.0 at c.parse.ensures.value.0 in
    rw c.ok.ensures.value (IsNumber-parsed c.args.bytes.now c.parse.result parsed (unsigned c) (unpadded c))

pub returns-in-Err : goal.returns-in-Err
returns-in-Err c = IsNumber-none c.args.bytes.now (λ n is. c.in-Err.ensures.cases.0 (IsUtf8-number c.args.bytes.now n is))
