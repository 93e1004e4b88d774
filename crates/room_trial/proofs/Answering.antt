-- A caller's calls of the first lines of its script.
use Rattle.std.proofs.Common.{◌≡◌, ◌⊎◌, ℕ, ◌+◌, ◌-◌, ◌<◌, ◌≤◌, inl, inr, List, [], ◌∷◌, ◌++◌, length, map, take, get_or, refl, sym, ap, ◌∙◌, subst, arith}
use Rattle.std.proofs.lemmas.List.{append-nil, length-append, map-append, map_more, take_all, take-map}
use Rattle.std.proofs.lemmas.List.Sums.{sum_by-append}
use Rattle.room_gate.specs.Shows.{Caller}
use Rattle.bay_core.specs.declared.calls.Reply.{Reply}
use Rattle.bay_core.specs.declared.calls.Reply.TheVariants.{Done, Full, Item, Empty}
use Rattle.bay_core.specs.declared.calls.Reply.TheVariants as replies
use Rattle.bay_core.specs.declared.calls.Entry.{Entry}
use Rattle.bay_core.specs.declared.calls.Layout.{Layout}
use Rattle.bay_core.specs.declared.calls.Layout.TheVariants.{Split, Paged}
use Rattle.bay_core.specs.declared.calls.Op.{Op}
use Rattle.bay_core.specs.declared.calls.Op.TheVariants.{Push, Pop, Enq, Deq, Peek, Sizes}
use Rattle.bay_core.specs.History.{own}
use Rattle.bay_rule.specs.declared.bay_use.BayUse.{BayUse}
use Rattle.bay_rule.specs.declared.views.BayView.{BayView}
use Rattle.bay_store.specs.Acting.{Spills}
use Rattle.bay_store.specs.Calls.{MayRepeat, Calls, StaysOut}
use Rattle.bay_store.specs.Sharing.{held_called}
use Rattle.bay_store.specs.declared.receipts.Receipt.{Receipt}
use Rattle.work_pool.specs.Gaining.{Gains, HearsNothing}
use Rattle.work_pool.proofs.Gaining.{gains_none, gains_more, gains_call, gains_out, out_of_draws, hears_none, hears_on, hears_call, hears_out}
use Rattle.room_script.specs.declared.trials.Line.{Line}
use Rattle.room_trial.specs.Scripts.{asked, called, taken_of, items_taken}
use Rattle.room_trial.specs.Callers.{MayOverflow, Answers}

-- the caller made the calls of the first k lines
pub record SoFar (x : BayUse) (lines : List Line) (k : ℕ) (before now : Caller BayView) (es : List Entry)
    : Type 0 where
  pub lines_are : map called es ≡ map asked (take k lines)
  pub few : k ≤ length lines
  pub many : length es ≡ k
  pub gains : Gains x before now es
  pub again : ℕ
  pub overflows : MayOverflow x.layout again
  pub drawn : now.draws ≡ before.draws + length es + again
  pub spills : now.user.spilled + now.user.overran ≡ before.user.spilled + before.user.overran + again
  pub held : now.user.held ≡ before.user.held + items_taken es
  pub hears : HearsNothing before now

never_overflows : (layout : Layout) → MayOverflow layout 0
never_overflows Split = refl
never_overflows Paged = tt

-- the overflows of a call, and of one more
overflows_more : (op : Op) (layout : Layout) (one two : ℕ) → MayOverflow layout one → MayRepeat op layout two
    → MayOverflow layout (one + two)
overflows_more op Paged one two a b = tt
overflows_more Push Split one two a b = omega (arith, a, b)
overflows_more Pop Split one two a b = omega (arith, a, b)
overflows_more Enq Split one two a b = omega (arith, a, b)
overflows_more Deq Split one two a b = omega (arith, a, b)
overflows_more Peek Split one two a b = omega (arith, a, b)
overflows_more Sizes Split one two a b = omega (arith, a, b)

spills_more : (op : Op) (layout : Layout) (again so_far : ℕ) (v w : BayView) (before : ℕ) → MayRepeat op layout again
    → Spills op again v w → v.spilled + v.overran ≡ before + so_far
    → w.spilled + w.overran ≡ before + (so_far + again)
spills_more Push layout again so_far v w before r s e = omega (arith, s.spilled, s.overran, e)
spills_more Pop layout again so_far v w before r s e = omega (arith, s.spilled, s.overran, e, r)
spills_more Enq layout again so_far v w before r s e = omega (arith, s.spilled, s.overran, e)
spills_more Deq layout again so_far v w before r s e = omega (arith, s.spilled, s.overran, e, r)
spills_more Peek layout again so_far v w before r s e = omega (arith, s.spilled, s.overran, e, r)
spills_more Sizes layout again so_far v w before r s e = omega (arith, s.spilled, s.overran, e, r)

-- before its first
pub none_yet : (x : BayUse) (lines : List Line) (pass : Caller BayView) → pass.user.mine ≡ own pass.who pass.user.seen
    → pass.draws ≤ pass.limit → SoFar x lines 0 pass pass []
none_yet x lines pass mine limited = record {
  lines_are = refl;
  few = omega arith;
  many = refl;
  gains = gains_none x pass mine limited;
  again = 0;
  overflows = never_overflows x.layout;
  drawn = omega arith;
  spills = omega arith;
  held = omega arith;
  hears = hears_none pass;
}

-- the shares after one call
shares_called : (op : Op) (r : Reply) (held : ℕ) → held_called op r held ≡ held + taken_of op r
shares_called op Done held = omega arith
shares_called op Full held = omega arith
shares_called op (Item item) held = omega arith
shares_called op Empty held = omega arith
shares_called op (replies.Sizes stack queue) held = omega arith

-- one line more
module _ (x : BayUse) (lines : List Line) (k : ℕ) (before now then : Caller BayView) (es : List Entry) (line : Line) (r : Receipt) where
  pub one_more : SoFar x lines k before now es → (d : Line) → k < length lines → get_or lines k d ≡ line
      → Calls x (asked line).0 (asked line).1 now then r
      → SoFar x lines (k + 1) before then (es ++ r.entry ∷ [])
  one_more so_far d within at c =
      let gains = so_far.gains in
      let mine : now.user.mine ≡ own now.who now.user.seen = gains.mine ∙ ap (λ w. own w now.user.seen) (sym gains.who) in
      let op = (asked line).0 in let item = (asked line).1 in
      let adds = c.adds.call in
      let longer = length-append es (r.entry ∷ []) in
      let its : called r.entry ≡ asked line =
      ap (λ (o : Op). (o, r.entry.arg)) adds.op_is ∙ ap (λ (a : ℕ). (op, a)) adds.arg in
      record {
        lines_are = map-append called es (r.entry ∷ [])
            ∙ (ap (λ xs. xs ++ called r.entry ∷ []) so_far.lines_are
            ∙ (ap (λ y. map asked (take k lines) ++ y ∷ []) (its ∙ ap asked (sym at))
            ∙ sym (map_more asked lines k d within)));
        few = omega (arith, within);
        many = omega (arith, longer, so_far.many);
        gains = gains_more x before now then es (r.entry ∷ []) gains (gains_call x op item now then r mine c);
        again = so_far.again + c.again;
        overflows = overflows_more op x.layout so_far.again c.again so_far.overflows c.repeats;
        drawn = omega (arith, longer, so_far.drawn, ap (λ (p : Caller BayView). p.draws) c.same);
        spills = spills_more op x.layout c.again so_far.again now.user then.user
            (before.user.spilled + before.user.overran) c.repeats c.spills so_far.spills;
        held = omega (
          arith,
          ap (λ (p : Caller BayView). p.user.held) c.same,
          shares_called op r.entry.reply now.user.held,
          ap (λ (o : Op). taken_of o r.entry.reply) adds.op_is,
          so_far.held,
          sum_by-append (λ d. taken_of d.op d.reply) es (r.entry ∷ []),
        );
        hears = hears_on before now then so_far.hears (hears_call x op item now then r c);
      }

-- the caller's calls, of all lines or until no draw was left
ended : (x : BayUse) (lines : List Line) (k : ℕ) (before now : Caller BayView) (es : List Entry)
    → SoFar x lines k before now es → (length es ≡ length lines) ⊎ (now.draws ≡ now.limit)
    → Answers x lines before now es
ended x lines k before now es so_far whole = record {
  answered = so_far.lines_are ∙ (sym (take-map asked k lines) ∙ ap (λ n. take n (map asked lines)) (sym so_far.many));
  whole = whole;
  gains = so_far.gains;
  again = so_far.again;
  overflows = so_far.overflows;
  drawn = so_far.drawn;
  spills = so_far.spills;
  held = so_far.held;
  hears = so_far.hears;
}

-- all lines are answered
pub all_answered : (x : BayUse) (lines : List Line) (k : ℕ) (before now : Caller BayView) (es : List Entry)
    → SoFar x lines k before now es → length lines ≤ k → Answers x lines before now es
all_answered x lines k before now es so_far all =
    ended x lines k before now es so_far (inl (omega (arith, all, so_far.few, so_far.many)))

-- the pass is spent, before the call of a line or after an overflow in it
pub spent : (x : BayUse) (lines : List Line) (k : ℕ) (before now then : Caller BayView) (es : List Entry) (op : Op)
    → SoFar x lines k before now es → StaysOut x op now then → Answers x lines before then es
spent x lines k before now then es op so_far out =
    let tries = out.tries in let gains = so_far.gains in
    let mine : now.user.mine ≡ own now.who now.user.seen = gains.mine ∙ ap (λ w. own w now.user.seen) (sym gains.who) in
    ended x lines k before then es (record {
      lines_are = so_far.lines_are;
      few = so_far.few;
      many = so_far.many;
      gains = subst (λ l. Gains x before then l) (append-nil es)
          (gains_more x before now then es [] gains (gains_out x op now then mine out));
      again = so_far.again + out.again;
      overflows = overflows_more op x.layout so_far.again out.again so_far.overflows tries.repeats;
      drawn = omega (arith, so_far.drawn, ap (λ (p : Caller BayView). p.draws) tries.same);
      spills = spills_more op x.layout out.again so_far.again now.user then.user
          (before.user.spilled + before.user.overran) tries.repeats tries.spills so_far.spills;
      held = ap (λ (p : Caller BayView). p.user.held) tries.same ∙ so_far.held;
      hears = hears_on before now then so_far.hears (hears_out x op now then out);
    }) (inr (out_of_draws x op now then out))
