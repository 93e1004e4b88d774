-- The lines of acts.
use Rattle.std.proofs.Common.{◌≡◌, ℕ, ◌↔◌, List, ◌∷◌, ◌++◌, get_or, Option, Some, ap, sym, ◌∙◌, refl, arith}
use Rattle.std.specs.Prelude.{codes, decimal}
use Rattle.std.proofs.lemmas.Option.{same_Some}
use Rattle.std.proofs.lemmas.List.{append_cancel_left}
use Rattle.std.proofs.lemmas.Fmt.{decimal_injective}
use Rattle.room_core.specs.declared.acts.Act.{Act}
use Rattle.room_core.specs.declared.acts.Act.TheVariants.{Draw, Step, Leave}
use Rattle.room_script.specs.Numbers.{IsNumberAfter}
use Rattle.room_script.proofs.Decimals.{decimal_unspaced}
use Rattle.room_script.proofs.Spelled.{two_at}
use Rattle.room_script.specs.Schedules.{IsAct, act_line}

abbrev pub IsActLine : List ℕ → ℕ × Act → Type 0
IsActLine line a = IsAct a × (line ≡ act_line a)

abbrev pub acted : ℕ → Act → ℕ × Act
acted caller act = (caller, act)

-- a line that begins with `step`
is_step : (line : List ℕ) (caller : ℕ) (a : ℕ × Act) → line ≡ codes "step " ++ decimal caller → IsActLine line a → (n : ℕ) × (a ≡ acted n Step) × IsNumberAfter (codes "step ") line n
is_step line caller (n, Draw room) spelled is = absurd (omega (arith, ap (λ xs. get_or xs 0 0) (sym spelled ∙ is.1)))
is_step line caller (n, Step) spelled is = (n, refl, record { fits = is.0; digits = is.1 })
is_step line caller (n, Leave) spelled is = absurd (omega (arith, ap (λ xs. get_or xs 0 0) (sym spelled ∙ is.1)))

pub step_read : (line : List ℕ) (caller : ℕ) → ((n : ℕ) → (Some caller ≡ Some n) ↔ IsNumberAfter (codes "step ") line n)
    → (a : ℕ × Act) → (◌≡◌ {A = Option (ℕ × Act)} (Some (acted caller Step)) (Some a)) ↔ IsActLine line a
step_read line caller read a =
    let is = (read caller).0 refl in (
      λ e. rw (← same_Some (acted caller Step) a e) (is.fits, is.digits),
      λ h. let step = is_step line caller a is.digits h in ap (λ n. Some (acted n Step)) (same_Some caller step.0 ((read step.0).1 step.2)) ∙ ap Some (sym step.1),
    )

-- an act has one line, and a line one act
pub act_line-injective : (a b : ℕ × Act) → IsAct a → IsAct b → act_line a ≡ act_line b → a ≡ b
act_line-injective (c, Draw r) (d, Draw q) fits fits' e =
    let same : decimal c ++ 32 ∷ decimal r ≡ decimal d ++ 32 ∷ decimal q = append_cancel_left (codes "draw ") _ _ e in
    let parts = two_at (decimal c) (decimal r) d q (decimal_unspaced c fits.0) (record { first_fits = fits'.0; second_fits = fits'.1; digits = same }) in
    let caller = decimal_injective c d fits.0 fits'.0 parts.0.digits in
    let room = decimal_injective r q fits.1 fits'.1 parts.1.digits in
    ap (λ n. acted n (Draw r)) caller ∙ ap (λ n. acted d (Draw n)) room
act_line-injective (c, Step) (d, Step) fits fits' e = ap (λ n. acted n Step) (decimal_injective c d fits fits' (append_cancel_left (codes "step ") _ _ e))
act_line-injective (c, Leave) (d, Leave) fits fits' e = ap (λ n. acted n Leave) (decimal_injective c d fits fits' (append_cancel_left (codes "leave ") _ _ e))
act_line-injective (c, Draw r) (d, Step) fits fits' e = absurd (omega (arith, ap (λ xs. get_or xs 0 0) e))
act_line-injective (c, Draw r) (d, Leave) fits fits' e = absurd (omega (arith, ap (λ xs. get_or xs 0 0) e))
act_line-injective (c, Step) (d, Draw q) fits fits' e = absurd (omega (arith, ap (λ xs. get_or xs 0 0) e))
act_line-injective (c, Step) (d, Leave) fits fits' e = absurd (omega (arith, ap (λ xs. get_or xs 0 0) e))
act_line-injective (c, Leave) (d, Draw q) fits fits' e = absurd (omega (arith, ap (λ xs. get_or xs 0 0) e))
act_line-injective (c, Leave) (d, Step) fits fits' e = absurd (omega (arith, ap (λ xs. get_or xs 0 0) e))
