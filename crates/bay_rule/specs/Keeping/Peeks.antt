-- What a step on another word leaves of `looks`.
use Rattle.std.proofs.Common.{◌≡◌, ◌≢◌, ℕ, ◌+◌, ◌<◌, ◌≤◌, Bool, List, get_or, set, sym, ◌∙◌, subst, inl, inr, arith}
use Rattle.std.proofs.lemmas.List.{get_or-set_other}
use Rattle.room_core.specs.Gate.{Gate, Shut, Held, Keyed}
use Rattle.bay_core.specs.declared.calls.Op.TheVariants.{Peek}
use Rattle.bay_core.specs.declared.calls.Noted.{Noted}
use Rattle.bay_core.specs.History.{Next}
use Rattle.bay_rule.specs.declared.bay_use.BayUse.{BayUse}
use Rattle.bay_rule.specs.declared.views.BayView.{BayView}
use Rattle.bay_rule.specs.Words.{looks_of}
use Rattle.bay_rule.specs.Views.{acted, turn_of}
use Rattle.bay_rule.specs.Ends.{LooksFit}

-- it is none of the first four words
pub looks_past : (x : BayUse) (a : ℕ) → a < 4 → looks_of x ≢ a
looks_past x a l e = omega (arith, l, e)

pub looks_read : (x : BayUse) (words : List ℕ) (a v : ℕ) → a < 4 → get_or (set words a v) (looks_of x) 0 ≡ get_or words (looks_of x) 0
looks_read x words a v l = get_or-set_other words a (looks_of x) v 0 (looks_past x a l)

-- a step that adds no call
pub looks_kept : (looks looks' : ℕ) (g : Gate) (views views' : List BayView) (h : List Noted) → looks' ≡ looks → acted views (turn_of g) ≤ acted views' (turn_of g) → LooksFit looks g views h → LooksFit looks' g views' h
looks_kept looks looks' (Shut t) views views' h e a k = e ∙ k
looks_kept looks looks' (Held r t ins) views views' h e a k = record {
  high = omega (arith, e, a, k.high);
  only = elim k.only [ inl z ↦ inl (e ∙ z) | inr z ↦ inr z ];
  next = λ z. subst (λ y. Next t Peek h (y ≡ 0) (λ rank. y ≡ rank + 1)) (sym e) (k.next z);
}
looks_kept looks looks' (Keyed r t c) views views' h e a k = elim k [ inl z ↦ inl (e ∙ z) | inr z ↦ inr (z.0, omega (arith, e, z.1)) ]

-- one in another room, which adds calls or none
pub looks_noted : (looks looks' r t : ℕ) (ins : ℕ → Bool) (views views' : List BayView) (h h' : List Noted) → r < 4 → looks' ≡ looks → acted views t ≤ acted views' t → LooksFit looks (Held r t ins) views h → LooksFit looks' (Held r t ins) views' h'
looks_noted looks looks' r t ins views views' h h' low e a k = record {
  high = omega (arith, e, a, k.high);
  only = elim k.only [ inl z ↦ inl (e ∙ z) | inr z ↦ inr z ];
  next = λ z. absurd (omega (arith, z, low));
}
