-- Handfuls of one call, one after another.
use Rattle.std.proofs.Common.{◌≡◌, ◌≢◌, ℕ, ◌+◌, ◌-◌, ◌<◌, ◌≤◌, List, length, take, drop, refl, sym, ap, subst, arith}
use Rattle.std.proofs.lemmas.List.{take_all, length-drop}
use Rattle.room_gate.specs.Shows.{Caller}
use Rattle.bay_core.specs.declared.calls.Layout.{Layout}
use Rattle.bay_core.specs.declared.calls.Layout.TheVariants.{Split, Paged}
use Rattle.bay_core.specs.declared.calls.Op.TheVariants.{Push}
use Rattle.bay_rule.specs.declared.bay_use.BayUse.{BayUse}
use Rattle.bay_rule.specs.declared.views.BayView.{BayView}
use Rattle.bay_rule.specs.Words.{spare_at}
use Rattle.bay_store.specs.Sharing.{calling}
use Rattle.bay_store.specs.Acting.{Spills}
use Rattle.bay_store.specs.Calls.{MayRepeat}
use Rattle.bay_store.specs.Handfuls.{overflows_of, Puts, PutsOnce, HasSpilled, PutsSome}
use Rattle.bay_store.specs.Handfuls.HasSpilled.{none, more}
use Rattle.bay_store.specs.declared.receipts.Stop.{Stop}
use Rattle.bay_store.specs.declared.receipts.Stop.TheVariants.{All, Full, Overflow, Spent}
use Rattle.bay_store.proofs.Going.{calling_on, calling_same}

-- the items from one on
pub items_from : (n : ℕ) (items : List ℕ) → take (length items - n) (drop n items) ≡ drop n items
items_from n items = take_all (length items - n) (drop n items) (omega (arith, length-drop n items))

module _ (x : BayUse) (items : List ℕ) (before : Caller BayView) where
  -- what a run of overflows leaves of its caller
  pub ran : (times stored : ℕ) (mid : Caller BayView) → HasSpilled x items before times stored mid
      → mid ≡ calling before mid (before.draws + times) before.user.held
  ran _ _ _ none = ap (λ d. calling before before d before.user.held) (omega arith)
  ran _ _ _ (more times stored part mid now run p) =
      let so_far = ran times stored mid run in
      calling_same before now _ _ _ _ (omega (arith, ap (λ (m : Caller BayView). m.draws) so_far)) (ap (λ (m : Caller BayView). m.user.held) so_far)
      (calling_on before mid now _ _ _ _ so_far p.same)

  -- each was counted
  counted : (times stored : ℕ) (mid : Caller BayView) → HasSpilled x items before times stored mid
      → Spills Push times before.user mid.user
  counted _ _ _ none = record { spilled = omega arith; overran = omega arith }
  counted _ _ _ (more times stored part mid now run p) =
      let so_far = counted times stored mid run in
      record {
        spilled = omega (arith, p.draws.spills.spilled, so_far.spilled);
        overran = omega (arith, p.draws.spills.overran, so_far.overran);
      }

  -- there is none where each list has its own cells
  split_none : (times stored : ℕ) (mid : Caller BayView) → x.layout ≡ Split → HasSpilled x items before times stored mid → times ≡ 0
  split_none _ _ _ split none = refl
  split_none _ _ _ split (more times stored part mid now run p) =
      absurd (omega (arith, p.draws.stops.1, ap (λ l. spare_at l now.user.spare) split))

  repeats : (l : Layout) (times stored : ℕ) (mid : Caller BayView) → x.layout ≡ l → HasSpilled x items before times stored mid → MayRepeat Push l times
  repeats Split times stored mid split run = split_none times stored mid split run
  repeats Paged times stored mid paged run = tt

  -- a call by its run and its last handful, which made its draw
  module _ (times stored part total : ℕ) (mid now : Caller BayView) (run : HasSpilled x items before times stored mid)
      (left : stored < length items) (sum : total ≡ stored + part) where
    same : (stop : Stop) → Puts x (drop stored items) part stop mid now
        → now ≡ calling before now (before.draws + times + 1) before.user.held
    same stop p =
        let so_far = ran times stored mid run in
        calling_same before now _ _ _ _ (omega (arith, ap (λ (m : Caller BayView). m.draws) so_far)) (ap (λ (m : Caller BayView). m.user.held) so_far)
        (calling_on before mid now _ _ _ _ so_far p.same)

    spills : (stop : Stop) → Puts x (drop stored items) part stop mid now → overflows_of stop ≡ 0 → Spills Push times before.user now.user
    spills stop p never =
        let so_far = counted times stored mid run in
        record {
          spilled = omega (arith, p.draws.spills.spilled, so_far.spilled, never);
          overran = omega (arith, p.draws.spills.overran, so_far.overran);
        }

    few : (stop : Stop) → Puts x (drop stored items) part stop mid now → total ≤ length items
    few stop p = omega (arith, p.draws.cells, length-drop stored items, sum, left)

    pub puts_some : (stop : Stop) → PutsOnce x (drop stored items) part stop mid now → stop ≢ Overflow
        → PutsSome x items before now (record { stored = total; stop = stop })
    puts_some All p answered = record {
      again = times;
      repeats = repeats x.layout times stored mid refl run;
      spilled = stored;
      mid = mid;
      run = run;
      part = part;
      last = p;
      answered = answered;
      stored = sum;
      few = few All p;
      all = λ e. omega (arith, p.draws.cells, p.draws.stops, length-drop stored items, sum, left);
      spills = spills All p refl;
      same = same All p;
    }
    puts_some Full p answered = record {
      again = times;
      repeats = repeats x.layout times stored mid refl run;
      spilled = stored;
      mid = mid;
      run = run;
      part = part;
      last = p;
      answered = answered;
      stored = sum;
      few = few Full p;
      all = λ e. absurd (cc);
      spills = spills Full p refl;
      same = same Full p;
    }
    puts_some Overflow p answered = absurd (answered refl)
    puts_some Spent p answered = record {
      again = times;
      repeats = repeats x.layout times stored mid refl run;
      spilled = stored;
      mid = mid;
      run = run;
      part = part;
      last = p;
      answered = answered;
      stored = sum;
      few = omega (arith, p.1, sum, left);
      all = λ e. absurd (cc);
      spills = subst (λ (z : Caller BayView). Spills Push times before.user z.user) (sym p.2) (counted times stored mid run);
      same = calling_same before now _ _ _ _ (omega arith) refl
          (subst (λ z. z ≡ calling before z (before.draws + times) before.user.held) (sym p.2) (ran times stored mid run));
    }

  -- one overflow more leaves items to put
  pub left_over : (stored part : ℕ) (mid now : Caller BayView) → stored < length items
      → Puts x (drop stored items) part Overflow mid now → stored + part < length items
  left_over stored part mid now left p = omega (arith, p.draws.cells, p.draws.stops.0, length-drop stored items, left)
