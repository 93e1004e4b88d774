-- What calls leave of their caller, one after another.
use Rattle.std.proofs.Common.{◌≡◌, ◌⊎◌, ℕ, ◌+◌, ◌<◌, ◌≤◌, inl, inr, List, [], ◌∷◌, ◌++◌, length, IfSome, refl, sym, ap, ◌∙◌, subst, arith}
use Rattle.std.proofs.lemmas.List.{append-nil, append_assoc}
use Rattle.room_gate.specs.Shows.{Caller}
use Rattle.bay_core.specs.declared.calls.Op.{Op}
use Rattle.bay_core.specs.declared.calls.Entry.{Entry}
use Rattle.bay_core.specs.declared.calls.Noted.{Noted}
use Rattle.bay_core.specs.History.{IsHistory, own}
use Rattle.bay_rule.specs.declared.bay_use.BayUse.{BayUse}
use Rattle.bay_rule.specs.declared.views.BayView.{BayView}
use Rattle.bay_rule.specs.Newest.{EmptySince}
use Rattle.bay_store.specs.Calls.{Calls, StaysOut}
use Rattle.bay_store.specs.Quiet.{hearing, hearing_quiet, IsQuietFor}
use Rattle.bay_store.specs.Sharing.{holding}
use Rattle.bay_store.specs.declared.receipts.Receipt.{Receipt}
use Rattle.bay_core.specs.Told.{told}
use Rattle.bay_core.proofs.Telling.{told_more, told_same, goes_further}
use Rattle.work_pool.specs.Gaining.{IsEmptied, EndsWith, Sees, SeesOn, HearsNothing, Gains}

-- what a caller has seen is what it had seen
sees_same : (x : BayUse) (before now : Caller BayView) → now.who ≡ before.who
    → now.user.seen ≡ before.user.seen → now.user.quiet_at ≡ before.user.quiet_at
    → Sees x before → Sees x now
sees_same x before now who seen quiet s = record {
  legal = subst (λ h. IsHistory x.layout x.blocks h) (sym seen) s.legal;
  ends = subst (λ w. EndsWith w now.user.seen ⊎ IsEmptied now.user.seen) (sym who)
      (subst (λ h. EndsWith before.who h ⊎ IsEmptied h) (sym seen) s.ends);
  since = subst (λ q. IfSome q (λ k. EmptySince k now.user.seen)) (sym quiet)
      (subst (λ h. IfSome before.user.quiet_at (λ k. EmptySince k h)) (sym seen) s.since);
}

sees_more : (x : BayUse) (a b c : Caller BayView) → c.who ≡ b.who → SeesOn x a b → SeesOn x b c
    → SeesOn x a c
sees_more x a b c who s1 s2 = elim s2 [
  | inl same ↦ elim s1 [
    | inl was ↦ inl (same.0 ∙ was.0, same.1 ∙ was.1)
    | inr s ↦ inr (sees_same x b c who same.0 same.1 s)
  ]
  | inr s ↦ inr s
]

-- the same view with other shares and another last load
sees_so : (x : BayUse) (caller now : Caller BayView) → now.who ≡ caller.who
    → now.user.seen ≡ caller.user.seen → now.user.quiet_at ≡ caller.user.quiet_at
    → (before : Caller BayView) → SeesOn x before caller → SeesOn x before now
sees_so x caller now who seen quiet before s =
    sees_more x before caller now who s (inl (seen, quiet))

-- no call
pub gains_none : (x : BayUse) (p : Caller BayView) → p.user.mine ≡ own p.who p.user.seen
    → p.draws ≤ p.limit → Gains x p p []
gains_none x p mine limited = record {
  site = refl;
  who = refl;
  limit = refl;
  draws = omega arith;
  limited = limited;
  drawn = λ _. refl;
  goes_on = ([], refl);
  mine = mine;
  gained = sym (append-nil (told p.who p.user.seen));
  sees = inl (refl, refl);
}

both_none : {A : Type 0} (xs ys : List A) → xs ≡ [] → ys ≡ [] → xs ++ ys ≡ []
both_none xs ys one two = ap (λ l. l ++ ys) one ∙ two

-- calls, and calls after them
pub gains_more : (x : BayUse) (a b c : Caller BayView) (es fs : List Entry) → Gains x a b es
    → Gains x b c fs → Gains x a c (es ++ fs)
gains_more x a b c es fs g1 g2 = record {
  site = g2.site ∙ g1.site;
  who = g2.who ∙ g1.who;
  limit = g2.limit ∙ g1.limit;
  draws = omega (arith, g1.draws, g2.draws);
  limited = g2.limited;
  drawn = λ same. both_none es fs (g1.drawn (omega (arith, same, g1.draws, g2.draws)))
      (g2.drawn (omega (arith, same, g1.draws, g2.draws)));
  goes_on = goes_further c.user.seen b.user.seen a.user.seen g2.goes_on g1.goes_on;
  mine = g2.mine ∙ ap (λ w. own w c.user.seen) g1.who;
  gained = ap (λ w. told w c.user.seen) (sym g1.who)
      ∙ (g2.gained
      ∙ (ap (λ w. told w b.user.seen ++ fs) g1.who
      ∙ (ap (λ l. l ++ fs) g1.gained
      ∙ append_assoc (told a.who a.user.seen) es fs)));
  sees = sees_more x a b c g2.who g1.sees g2.sees;
}

-- the shares are no part of it
pub gains_holding : (x : BayUse) (a b : Caller BayView) (es : List Entry) (held : ℕ) → Gains x a b es
    → Gains x a (holding b held) es
gains_holding x a b es held g = record {
  site = g.site;
  who = g.who;
  limit = g.limit;
  draws = g.draws;
  limited = g.limited;
  drawn = g.drawn;
  goes_on = g.goes_on;
  mine = g.mine;
  gained = g.gained;
  sees = sees_so x b (holding b held) refl refl refl a g.sees;
}

-- nor is a load that gave some
pub gains_hearing : (x : BayUse) (a b : Caller BayView) (es : List Entry) (live : ℕ) → Gains x a b es
    → Gains x a (hearing b live) es
gains_hearing x a b es live g = record {
  site = g.site;
  who = g.who;
  limit = g.limit;
  draws = g.draws;
  limited = g.limited;
  drawn = g.drawn;
  goes_on = g.goes_on;
  mine = g.mine;
  gained = g.gained;
  sees = sees_so x b (hearing b live) refl refl refl a g.sees;
}

-- a load that gave 0 shows the whole history
pub gains_quiet : (x : BayUse) (a b : Caller BayView) (es : List Entry) (h : List Noted)
    → IsQuietFor x b h → Gains x a b es → Gains x a (hearing_quiet b h) es
gains_quiet x a b es h q g =
    let all : b.user.mine ≡ own a.who h = q.mine ∙ ap (λ w. own w h) g.who in
    record {
      site = g.site;
      who = g.who;
      limit = g.limit;
      draws = g.draws;
      limited = g.limited;
      drawn = g.drawn;
      goes_on = goes_further h b.user.seen a.user.seen q.goes_on g.goes_on;
      mine = all;
      gained = told_same a.who h b.user.seen q.goes_on (sym all ∙ g.mine) ∙ g.gained;
      sees = inr (record {
        legal = q.legal;
        ends = inr (q.no_stack, q.no_queue);
        since = q.since;
      });
    }

-- no load of `live`
pub hears_none : (p : Caller BayView) → HearsNothing p p
hears_none p = record { quiet_at = refl; loads = refl; bare_loads = refl; live = refl }

pub hears_on : (a b c : Caller BayView) → HearsNothing a b → HearsNothing b c → HearsNothing a c
hears_on a b c one two = record {
  quiet_at = two.quiet_at ∙ one.quiet_at;
  loads = two.loads ∙ one.loads;
  bare_loads = two.bare_loads ∙ one.bare_loads;
  live = two.live ∙ one.live;
}

-- nor does a call of the bay make one
pub hears_call : (x : BayUse) (op : Op) (item : ℕ) (before now : Caller BayView) (r : Receipt)
    → Calls x op item before now r → HearsNothing before now
hears_call x op item before now r c = record {
  quiet_at = ap (λ (p : Caller BayView). p.user.quiet_at) c.same;
  loads = ap (λ (p : Caller BayView). p.user.loads) c.same;
  bare_loads = ap (λ (p : Caller BayView). p.user.bare_loads) c.same;
  live = ap (λ (p : Caller BayView). p.user.live) c.same;
}

-- a call for which no draw was left, at its start or after an overflow
pub gains_out : (x : BayUse) (op : Op) (before now : Caller BayView) → before.user.mine ≡ own before.who before.user.seen
    → StaysOut x op before now → Gains x before now []
gains_out x op before now mine out =
    let tries = out.tries in let seen = tries.adds.seen in
    let drawn : now.draws ≡ before.draws + out.again = ap (λ (p : Caller BayView). p.draws) tries.same in
    let most : now.limit ≡ before.limit = ap (λ (p : Caller BayView). p.limit) tries.same in
    record {
      site = ap (λ (p : Caller BayView). p.site) tries.same;
      who = ap (λ (p : Caller BayView). p.who) tries.same;
      limit = most;
      draws = omega (arith, drawn);
      limited = omega (arith, drawn, most, out.spent);
      drawn = λ _. refl;
      goes_on = ([], seen);
      mine = tries.adds.mine ∙ (mine ∙ ap (own before.who) (sym seen));
      gained = ap (told before.who) seen ∙ sym (append-nil (told before.who before.user.seen));
      sees = inl (seen, ap (λ (p : Caller BayView). p.user.quiet_at) tries.same);
    }

pub out_of_draws : (x : BayUse) (op : Op) (before now : Caller BayView) → StaysOut x op before now
    → now.draws ≡ now.limit
out_of_draws x op before now out = omega (
  arith,
  out.spent,
  ap (λ (p : Caller BayView). p.draws) out.tries.same,
  ap (λ (p : Caller BayView). p.limit) out.tries.same,
)

pub hears_out : (x : BayUse) (op : Op) (before now : Caller BayView) → StaysOut x op before now
    → HearsNothing before now
hears_out x op before now out =
    let same = out.tries.same in
    record {
      quiet_at = ap (λ (p : Caller BayView). p.user.quiet_at) same;
      loads = ap (λ (p : Caller BayView). p.user.loads) same;
      bare_loads = ap (λ (p : Caller BayView). p.user.bare_loads) same;
      live = ap (λ (p : Caller BayView). p.user.live) same;
    }

-- one call of the bay
module _ (x : BayUse) (op : Op) (item : ℕ) (before now : Caller BayView) (r : Receipt) (mine : before.user.mine ≡ own before.who before.user.seen) (c : Calls x op item before now r) where
  its_own : c.adds.call.noted.who ≡ before.who
  its_own = sym (ap (λ (e : Entry). e.who) c.adds.call.entry) ∙ c.adds.call.who

  gained_one : told before.who now.user.seen ≡ told before.who before.user.seen ++ r.entry ∷ []
  gained_one =
      let adds = c.adds.call in let n = adds.noted in let h = adds.history in
      let grown : n ∷ before.user.mine ≡ own before.who (n ∷ h) =
      sym adds.mine ∙ (adds.all_mine ∙ ap (own before.who) adds.seen) in
      ap (told before.who) adds.seen
      ∙ (told_more before.who n h before.user.seen before.user.mine adds.goes_on its_own mine grown
      ∙ ap (λ (e : Entry). told before.who before.user.seen ++ e ∷ []) (sym adds.entry))

  same_who : now.who ≡ before.who
  same_who = ap (λ (p : Caller BayView). p.who) c.same

  pub gains_call : Gains x before now (r.entry ∷ [])
  gains_call =
      let adds = c.adds.call in
      let drawn : now.draws ≡ before.draws + c.again + 1 = ap (λ (p : Caller BayView). p.draws) c.same in
      let most : now.limit ≡ before.limit = ap (λ (p : Caller BayView). p.limit) c.same in
      record {
        site = ap (λ (p : Caller BayView). p.site) c.same;
        who = same_who;
        limit = most;
        draws = omega (arith, drawn);
        limited = omega (arith, drawn, most, c.had);
        drawn = λ same. absurd (omega (arith, same, drawn));
        goes_on = (adds.noted ∷ adds.goes_on.0, adds.seen ∙ ap (λ h. adds.noted ∷ h) adds.goes_on.1);
        mine = adds.all_mine;
        gained = gained_one;
        sees = inr (record {
          legal = adds.legal;
          ends = subst (λ h. EndsWith now.who h ⊎ IsEmptied h) (sym adds.seen) (inl (its_own ∙ sym same_who));
          since = adds.since;
        });
      }
