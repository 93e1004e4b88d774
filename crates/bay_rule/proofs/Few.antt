-- How many items a bay can have taken in: each is of a draw, and there are few of those.
use Rattle.std.proofs.Common.{◌≡◌, ℕ, zero, suc, ◌+◌, ◌*◌, ◌<◌, ◌≤◌, List, [], ◌∷◌, length, refl, sym, ap, ◌∙◌, inl, inr, arith}
use Rattle.std.proofs.lemmas.Bool.{cases_eq, cases_lt}
use Rattle.room_core.specs.Gate.{Gate}
use Rattle.bay_core.specs.declared.calls.Noted.{Noted}
use Rattle.bay_core.specs.declared.numbers.TheConstants.{MOST_CALLERS, MOST_DRAWS}
use Rattle.bay_core.specs.Noted.{after}
use Rattle.bay_core.specs.History.{own}
use Rattle.bay_core.proofs.OwnCalls.{own_same, own_other}
use Rattle.bay_rule.specs.declared.bay_use.BayUse.{BayUse}
use Rattle.bay_rule.specs.declared.views.BayView.{BayView}
use Rattle.bay_rule.specs.Spending.{enq_stored, enqs_in}
use Rattle.bay_rule.specs.Shows.{Shows}
use Rattle.bay_rule.specs.Keeping.Spending.{queue_gains}
use Rattle.bay_rule.proofs.Resting.{has_history}

-- each item that is or was in the queue was stored
came_in : (h : List Noted) → (after h).taken + length (after h).queue ≤ enqs_in h
came_in [] = omega arith
came_in (n ∷ h) = omega (arith, queue_gains (after h) n.op n.arg n.stored, came_in h)

-- by the callers below n
enqs_below : ℕ → List Noted → ℕ
enqs_below zero h = 0
enqs_below (suc n) h = enqs_below n h + enqs_in (own n h)

of_past : (n : ℕ) (m : Noted) (h : List Noted) → n ≤ m.who → enqs_below n (m ∷ h) ≡ enqs_below n h
unfolding enqs_below
of_past zero m h past = refl
of_past (suc n) m h past =
    let rest = of_past n m h (omega (arith, past)) in
    let same = ap enqs_in (own_other m h n (λ e. omega (arith, e, past))) in
    omega (arith, rest, same)

of_below : (n : ℕ) (m : Noted) (h : List Noted) → m.who < n → enqs_below n (m ∷ h) ≡ enqs_below n h + enq_stored m.op m.stored
unfolding enqs_below
of_below zero m h below = absurd (omega (arith, below))
of_below (suc n) m h below = elim (cases_eq m.who n) [
  | inl is ↦ omega (arith, of_past n m h (omega (arith, is)), ap enqs_in (own_same m h n is))
  | inr ne ↦ omega (arith, of_below n m h (omega (arith, ne, below)), ap enqs_in (own_other m h n ne))
]

cons_none : (m : Noted) (h : List Noted) → m ∷ h ≡ [] → ⊥
cons_none m h e = cc

all_below : (n : ℕ) (h : List Noted) → ((c : ℕ) → n ≤ c → own c h ≡ []) → enqs_in h ≤ enqs_below n h
all_below n [] none = omega arith
all_below n (m ∷ h) none =
    let below : m.who < n = elim (cases_lt m.who n) [
      | inl l ↦ l
      | inr past ↦ absurd (cons_none m (own m.who h) (sym (own_same m h m.who refl) ∙ none m.who past))
    ] in
    let rest : enqs_in h ≤ enqs_below n h =
    all_below n h (λ c past. sym (own_other m h c (λ e. omega (arith, e, below, past))) ∙ none c past) in
    omega (arith, rest, of_below n m h below)

few_below : (n : ℕ) (h : List Noted) → ((c : ℕ) → enqs_in (own c h) ≤ MOST_DRAWS) → enqs_below n h ≤ n * MOST_DRAWS
unfolding enqs_below
few_below zero h each = omega arith
few_below (suc n) h each = omega (arith, few_below n h each, each n)

-- so many positions of the queue were drawn at most
pub few_came : (x : BayUse) (h : List Noted) (words : List ℕ) (views : List BayView) (gate : Gate) → Shows x h words views gate
    → (after h).taken + length (after h).queue ≤ MOST_CALLERS * MOST_DRAWS
few_came x h words views gate k =
    let all = all_below (length views) h (has_history x h words views gate k).others in
    let each : (c : ℕ) → enqs_in (own c h) ≤ MOST_DRAWS =
    λ c. omega (arith, ap enqs_in (k.each c).mine, (k.each c).used_for.enqs, (k.each c).used_for.limited) in
    omega (arith, came_in h, all, few_below (length views) h each, k.few)
