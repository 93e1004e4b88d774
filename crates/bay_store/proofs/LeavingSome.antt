-- A whole handful, by what its parts left.
use Rattle.std.proofs.Common.{◌≡◌, ◌∙◌, ℕ, ◌+◌, ◌-◌, ◌<◌, inl, inr, List, length, sym, ap, subst, arith}
use Rattle.room_gate.specs.Shows.{Caller}
use Rattle.bay_rule.specs.declared.bay_use.BayUse.{BayUse}
use Rattle.bay_rule.specs.declared.views.BayView.{BayView}
use Rattle.bay_store.specs.declared.wishes.Wish.TheVariants.{Several}
use Rattle.bay_store.specs.Wishes.{items_of}
use Rattle.bay_store.specs.Shows.{Actor}
use Rattle.bay_store.specs.Sharing.{held_asking, holding, calling}
use Rattle.bay_store.specs.Asking.{GoesInto}
use Rattle.bay_store.specs.Handfuls.{DrawsSome, IsActedSome, Puts, PutsOnce}
use Rattle.bay_store.specs.declared.acts.BayHandful.{BayHandful}
use Rattle.bay_store.specs.declared.receipts.Stop.{Stop}
use Rattle.bay_store.specs.declared.receipts.Stop.TheVariants.{All, Full, Overflow, Spent}
use Rattle.bay_store.proofs.Calling.{now_is}

-- what a handful adds does not rest on the shares
draws_held : (x : BayUse) (items : List ℕ) (who turn rank stored : ℕ) (stop : Stop) (v w : BayView) (m n : ℕ)
    → DrawsSome x items who turn rank stored stop (record v { held = m }) w
    → DrawsSome x items who turn rank stored stop v (record w { held = n })
draws_held x items who turn rank stored stop v w m n d = record {
  history = d.history;
  goes_on = d.goes_on;
  stood = d.stood;
  old = d.old;
  last = d.last;
  cells = d.cells;
  stops = d.stops;
  gains = elim d.gains [
    | inl g ↦ inl g
    | inr g ↦ inr (g.0, record { mine = g.1.mine; seen = g.1.seen; aim = g.1.aim })
  ];
  keeps = d.keeps;
  spills = record { spilled = d.spills.spilled; overran = d.spills.overran };
}

module _ (items : List ℕ) (pass : Caller BayView) (i : Actor) (h : BayHandful) (now : Caller BayView)
    (goes : GoesInto pass (Several items) i)
    (left : now ≡ record (holding h.done.insider.caller (h.done.insider.caller.user.held - h.done.owes)) { done = now.done })
    (x : BayUse) (acted : IsActedSome x i h) where
  draws : DrawsSome x items pass.who h.turn h.rank h.stored h.stop pass.user now.user
  draws =
      let w = h.done.insider.caller.user in
      let of_items = subst (λ z. DrawsSome x (items_of z) i.insider.caller.who h.turn h.rank h.stored h.stop i.insider.caller.user w) goes.wish_is acted.draws in
      let of_pass = subst (λ (z : Caller BayView). DrawsSome x items z.who h.turn h.rank h.stored h.stop z.user w) goes.goes.caller of_items in
      subst (λ (z : Caller BayView). DrawsSome x items pass.who h.turn h.rank h.stored h.stop pass.user z.user) (sym left)
      (draws_held x items pass.who h.turn h.rank h.stored h.stop pass.user w (held_asking (Several items) pass.user.held) (w.held - h.done.owes) of_pass)

  kept : held_asking (Several items) pass.user.held - h.stored - h.done.owes ≡ pass.user.held
  kept = omega (arith, acted.owes, ap (λ z. length (items_of z)) goes.wish_is)

  pub puts : pass.draws < pass.limit → Puts x items h.stored h.stop pass now
  puts had = record {
    had = had;
    turn = h.turn;
    rank = h.rank;
    first = h.first;
    draws = draws;
    looked = ap (λ (z : Caller BayView). z.first) left ∙ acted.first;
    soon = acted.soon;
    same = now_is (Several items) pass i h.done now goes left (λ n. n - h.stored) acted.same ∙ ap (calling pass now (pass.draws + 1)) kept;
  }

-- by what stopped it: a handful that made its draw is not spent
pub once : (x : BayUse) (items : List ℕ) (stored : ℕ) (stop : Stop) (before now : Caller BayView)
    → Puts x items stored stop before now → PutsOnce x items stored stop before now
once x items stored All before now p = p
once x items stored Full before now p = p
once x items stored Overflow before now p = p
once x items stored Spent before now p = absurd p.draws.stops
