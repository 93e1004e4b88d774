-- Calls after calls, by what each left of its caller.
use Rattle.std.proofs.Common.{◌≡◌, ◌∙◌, ℕ, ap, subst}
use Rattle.room_gate.specs.Shows.{Caller}
use Rattle.bay_core.specs.declared.calls.Op.{Op}
use Rattle.bay_rule.specs.declared.bay_use.BayUse.{BayUse}
use Rattle.bay_rule.specs.declared.views.BayView.{BayView}
use Rattle.bay_store.specs.Sharing.{calling}
use Rattle.bay_store.specs.Adding.{known, AddsCall}
use Rattle.bay_store.specs.Calls.{Adds}
use Rattle.bay_store.specs.declared.receipts.Receipt.{Receipt}

pub calling_on : (a b c : Caller BayView) (d e h k : ℕ) → b ≡ calling a b d h → c ≡ calling b c e k
    → c ≡ calling a c e k
calling_on a b c d e h k one two = subst (λ z. c ≡ calling z c e k) one two

-- by equal draws and shares
pub calling_same : (a b : Caller BayView) (d e h k : ℕ) → d ≡ e → h ≡ k → b ≡ calling a b d h
    → b ≡ calling a b e k
calling_same a b d e h k p q is =
    is ∙ (ap (λ n. calling a b n h) p ∙ ap (λ n. calling a b e n) q)

-- what a call adds rests on what its caller had seen and called before
pub adds_after : (x : BayUse) (op : Op) (item : ℕ) (a b now : Caller BayView) (r : Receipt)
    → b.who ≡ a.who → b.user.seen ≡ a.user.seen → b.user.mine ≡ a.user.mine
    → Adds x op item b now r → Adds x op item a now r
adds_after x op item a b now r who seen mine g = record {
  call = subst (λ c. AddsCall x op item c a.user.seen a.user.mine (known now.user) r.entry) who
      (subst (λ h. AddsCall x op item b.who h a.user.mine (known now.user) r.entry) seen
      (subst (λ m. AddsCall x op item b.who b.user.seen m (known now.user) r.entry) mine g.call));
  first = g.first;
  soon = g.soon;
}
