-- The lines of calls.
use Rattle.std.proofs.Common.{◌≡◌, ℕ, ◌↔◌, List, ◌++◌, get_or, Option, Some, refl, ap, sym, ◌∙◌, subst, arith}
use Rattle.std.specs.Prelude.{codes, decimal}
use Rattle.std.proofs.lemmas.Option.{same_Some}
use Rattle.std.proofs.lemmas.List.{append_cancel_left}
use Rattle.std.proofs.lemmas.Fmt.{decimal_injective}
use Rattle.room_script.specs.declared.trials.Line.{Line}
use Rattle.room_script.specs.declared.trials.Line.TheVariants.{Push, Pop, Enq, Deq, Peek, Sizes}
use Rattle.room_script.specs.Trials.{IsCall, IsCallLine, call_line, caller_line}

-- a call has one line, and a line one call
pub call_line-injective : (a b : Line) → IsCall a → IsCall b → call_line a ≡ call_line b → a ≡ b
call_line-injective (Push x) (Push y) fits fits' e = ap Push (decimal_injective x y fits fits' (append_cancel_left (codes "push ") _ _ e))
call_line-injective (Enq x) (Enq y) fits fits' e = ap Enq (decimal_injective x y fits fits' (append_cancel_left (codes "enq ") _ _ e))
call_line-injective Pop Pop fits fits' e = refl
call_line-injective Deq Deq fits fits' e = refl
call_line-injective Peek Peek fits fits' e = refl
call_line-injective Sizes Sizes fits fits' e = refl
call_line-injective a b fits fits' e = absurd (omega (arith, ap (λ xs. get_or xs 1 0) e, ap (λ xs. get_or xs 2 0) e))

-- a line from which a call is read
pub call_read : (form : ℕ) (line : List ℕ) (a b : Line) → IsCallLine form line a → (◌≡◌ {A = Option Line} (Some a) (Some b)) ↔ IsCallLine form line b
call_read form line a b is = (
  λ e. subst (IsCallLine form line) (same_Some a b e) is,
  λ other. ap Some (call_line-injective a b is.0 other.0 (sym is.2 ∙ other.2)),
)

-- no call's line is the one that begins a script
pub caller_no_call : (a : Line) → caller_line ≡ call_line a → ⊥
caller_no_call (Push x) e = omega (arith, ap (λ xs. get_or xs 1 0) e)
caller_no_call Pop e = omega (arith, ap (λ xs. get_or xs 1 0) e)
caller_no_call (Enq x) e = omega (arith, ap (λ xs. get_or xs 1 0) e)
caller_no_call Deq e = omega (arith, ap (λ xs. get_or xs 1 0) e)
caller_no_call Peek e = omega (arith, ap (λ xs. get_or xs 1 0) e)
caller_no_call Sizes e = omega (arith, ap (λ xs. get_or xs 1 0) e)
