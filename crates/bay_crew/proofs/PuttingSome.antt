-- Handfuls that are timed.
use Rattle.std.proofs.Common.{◌≡◌, ◌≢◌, ℕ, ◌+◌, ◌*◌, ◌≤◌, List, length, refl, ap, arith}
use Rattle.atomic_table.specs.Seated.{TableId}
use Rattle.room_gate.specs.Shows.{Caller}
use Rattle.bay_rule.specs.declared.bay_use.BayUse.{BayUse}
use Rattle.bay_rule.specs.declared.views.BayView.{BayView}
use Rattle.bay_core.specs.declared.calls.Op.TheVariants.{Push}
use Rattle.bay_store.specs.declared.receipts.Handful.{Handful}
use Rattle.bay_store.specs.declared.receipts.Stop.{Stop}
use Rattle.bay_store.specs.declared.receipts.Stop.TheVariants.{All, Full, Overflow, Spent}
use Rattle.bay_store.specs.Sharing.{calling}
use Rattle.bay_store.specs.Handfuls.{PutsOnce, PutsSome, draws_of}
use Rattle.bay_crew.specs.Timings.{CanCall, Repeats}
use Rattle.bay_crew.specs.declared.handfuls.Turn.{Turn}
use Rattle.bay_crew.specs.declared.handfuls.Turn.TheVariants.{Puts, PutsAndTakes}
use Rattle.bay_crew.specs.Handfuls.{answered_of, draws_in, calls_in}
use Rattle.bay_crew.proofs.Timing.{never_again}

-- no more items have an entry than there are
few_answered : (stop : Stop) (stored count : ℕ) → stored ≤ count → answered_of stop stored count ≤ count
few_answered All stored count few = omega arith
few_answered Full stored count few = omega arith
few_answered Overflow stored count few = few
few_answered Spent stored count few = few

-- where no handful overflows, all have one, by one draw
all_answered : (x : BayUse) (rest : List ℕ) (stop : Stop) (stored count again part : ℕ)
    (before mid now : Caller BayView) → again ≡ 0 → PutsOnce x rest part stop mid now → stop ≢ Overflow
    → now ≡ calling before now (before.draws + again + draws_of stop) before.user.held
    → before.draws + 1 ≤ before.limit
    → (answered_of stop stored count ≡ count) × (now.draws ≡ before.draws + 1)
all_answered x rest All stored count again part before mid now none last not same can =
    (refl, omega (arith, none, ap (λ (p : Caller BayView). p.draws) same))
all_answered x rest Full stored count again part before mid now none last not same can =
    (refl, omega (arith, none, ap (λ (p : Caller BayView). p.draws) same))
all_answered x rest Overflow stored count again part before mid now none last not same can = absurd (not refl)
all_answered x rest Spent stored count again part before mid now none last not same can = absurd (omega (
  arith,
  none,
  can,
  last.0,
  ap (λ (p : Caller BayView). p.draws) last.2,
  ap (λ (p : Caller BayView). p.limit) last.2,
  ap (λ (p : Caller BayView). p.draws) same,
  ap (λ (p : Caller BayView). p.limit) same,
))

-- a handful is one draw
pub put_some : (x : BayUse) (items : List ℕ) (site : TableId) (before now : Caller BayView) (h : Handful)
    → CanCall x.layout site 1 before → PutsSome x items before now h → 1 ≤ now.user.held
    → Repeats x.layout 1 (length items) before now (answered_of h.stop h.stored (length items))
put_some x items site before now h can c share = record {
  site = ap (λ (p : Caller BayView). p.site) c.same;
  limit = ap (λ (p : Caller BayView). p.limit) c.same;
  share = share;
  few = few_answered h.stop h.stored (length items) c.few;
  all = λ split. all_answered x _ h.stop h.stored (length items) c.again c.part before c.mid now
      (never_again Push x.layout c.again split c.repeats) c.last c.answered c.same (can.draws split);
}

-- the draws of so many turns, and their puts and takes
pub few_draws : (turn : Turn) (k : ℕ) → k * draws_in turn ≤ 33 * k
few_draws Puts k = omega arith
few_draws PutsAndTakes k = omega arith

pub few_calls : (turn : Turn) (k : ℕ) → k * calls_in turn ≤ 64 * k
few_calls Puts k = omega arith
few_calls PutsAndTakes k = omega arith
