-- Passes that are timed, and the sum of what they made.
use Rattle.std.proofs.Common.{◌≡◌, ℕ, ◌+◌, ◌*◌, ◌/◌, ◌^◌, ◌<◌, ◌≤◌, suc-mul, List, [], ◌∷◌, length, refl, sym, ap, ◌∙◌, subst, arith}
use Rattle.std.specs.Prelude.{slice_index_or, All}
use Rattle.std.specs.List.{sum_by, AllByRecursion}
use Rattle.std.proofs.lemmas.List.Elements.{recursion_from_All}
use Rattle.std.proofs.lemmas.List.Sums.{sum_by-cons}
use Rattle.std.proofs.Math.Nat.{mul_left_comm, div-mul-le_self}
use Rattle.atomic_table.specs.Seated.{TableId}
use Rattle.atomic_table.proofs.Lists.{at_index}
use Rattle.room_gate.specs.Shows.{Caller}
use Rattle.room_gate.specs.Making.{ArePasses}
use Rattle.bay_core.specs.declared.calls.Layout.{Layout}
use Rattle.bay_core.specs.declared.calls.Layout.TheVariants.{Split, Paged}
use Rattle.bay_core.specs.declared.calls.Op.{Op}
use Rattle.bay_core.specs.declared.calls.Op.TheVariants.{Push, Pop, Enq, Deq, Peek, Sizes}
use Rattle.bay_rule.specs.declared.bay_use.BayUse.{BayUse}
use Rattle.bay_store.specs.Calls.{MayRepeat, Calls, StaysOut}
use Rattle.bay_store.specs.declared.receipts.Receipt.{Receipt}
use Rattle.bay_rule.specs.Views.{fresh_view}
use Rattle.bay_rule.specs.declared.views.BayView.{BayView}
use Rattle.bay_crew.specs.Timings.{CanCall, Repeats, HadEntries, calls_of}

-- the new passes may call, so often as they have draws
pub ready : (layout : Layout) (site : TableId) (limit callers calls : ℕ) (passes : List (Caller BayView))
    → ArePasses site limit (λ who. fresh_view 1) callers passes → calls ≤ limit
    → (i : ℕ) (p : Caller BayView) → i < length passes
    → p ≡ slice_index_or passes i p → CanCall layout site calls p
ready layout site limit callers calls passes are few i p h is =
    subst (λ (z : Caller BayView). CanCall layout site calls z) (sym (are.each i p (at_index passes i p h is))) (record {
      own = refl;
      share = omega arith;
      draws = λ _. omega (arith, few);
    })

-- no call
pub repeats_none : (layout : Layout) (site : TableId) (calls : ℕ) (p : Caller BayView) → CanCall layout site calls p
    → Repeats layout 0 0 p p 0
repeats_none layout site calls p can = record {
  site = refl;
  limit = refl;
  share = can.share;
  few = omega arith;
  all = λ _. (refl, omega arith);
}

-- calls, and calls after them
pub repeats_on : (layout : Layout) (a b c : Caller BayView) (n k u v made more : ℕ) → Repeats layout n u a b made
    → Repeats layout k v b c more → Repeats layout (n + k) (u + v) a c (made + more)
repeats_on layout a b c n k u v made more one two = record {
  site = two.site ∙ one.site;
  limit = two.limit ∙ one.limit;
  share = two.share;
  few = omega (arith, one.few, two.few);
  all = λ split. (
    omega (arith, (one.all split).0, (two.all split).0),
    omega (arith, (one.all split).1, (two.all split).1),
  );
}

-- more calls may follow
pub can_go_on : (layout : Layout) (site : TableId) (before now : Caller BayView) (all n k u made : ℕ)
    → CanCall layout site all before → Repeats layout n u before now made → n + k ≤ all → CanCall layout site k now
can_go_on layout site before now all n k u made can did near = record {
  own = did.site ∙ can.own;
  share = did.share;
  draws = λ split. omega (arith, can.draws split, (did.all split).1, did.limit, near);
}

-- where each call makes one draw, none overflows
by_op : (op : Op) (again : ℕ) → MayRepeat op Split again → again ≡ 0
by_op Push again r = r
by_op Pop again r = r
by_op Enq again r = r
by_op Deq again r = r
by_op Peek again r = r
by_op Sizes again r = r

pub never_again : (op : Op) (layout : Layout) (again : ℕ) → layout ≡ Split → MayRepeat op layout again → again ≡ 0
never_again op layout again split may = by_op op again (subst (λ l. MayRepeat op l again) split may)

-- a call with an entry
pub called_once : (x : BayUse) (op : Op) (item : ℕ) (site : TableId) (before now : Caller BayView) (r : Receipt)
    → CanCall x.layout site 1 before → Calls x op item before now r → 1 ≤ now.user.held
    → Repeats x.layout 1 1 before now 1
called_once x op item site before now r can c share = record {
  site = ap (λ (p : Caller BayView). p.site) c.same;
  limit = ap (λ (p : Caller BayView). p.limit) c.same;
  share = share;
  few = omega arith;
  all = λ split. (
    refl,
    omega (arith, never_again op x.layout c.again split c.repeats, ap (λ (p : Caller BayView). p.draws) c.same),
  );
}

-- a call for which no draw was left
pub stayed_out : (x : BayUse) (op : Op) (site : TableId) (before now : Caller BayView)
    → CanCall x.layout site 1 before → StaysOut x op before now → 1 ≤ now.user.held
    → Repeats x.layout 1 1 before now 0
stayed_out x op site before now can out share =
    let same = out.tries.same in
    record {
      site = ap (λ (p : Caller BayView). p.site) same;
      limit = ap (λ (p : Caller BayView). p.limit) same;
      share = share;
      few = omega arith;
      all = λ split. absurd (omega (
        arith,
        never_again op x.layout out.again split out.tries.repeats,
        out.spent,
        can.draws split,
      ));
    }

-- what a caller answers that made all its calls
pub had_entries : (layout : Layout) (calls made : ℕ) → made ≤ calls → (layout ≡ Split → made ≡ calls)
    → HadEntries layout calls made
had_entries Split calls made few all = all refl
had_entries Paged calls made few all = few

-- the calls of whole runs, run by run
pub by_runs : (items run : ℕ) → items / run * (2 * run) ≡ calls_of items run
by_runs items run = mul_left_comm (items / run) 2 run

pub few_calls : (items run : ℕ) → calls_of items run ≤ 2 * items
few_calls items run = omega (arith, div-mul-le_self items run)

-- the sum of what callers answered
sum_of_all : (layout : Layout) (n : ℕ) (numbers : List ℕ) → AllByRecursion (HadEntries layout n) numbers
    → HadEntries layout (length numbers * n) (sum_by (λ m. m) numbers)
sum_of_all Split n [] all = omega arith
sum_of_all Split n (m ∷ numbers) all =
    omega (arith, all.0, sum_of_all Split n numbers all.1, sum_by-cons (λ k. k) m numbers, suc-mul (length numbers) n)
sum_of_all Paged n [] all = omega arith
sum_of_all Paged n (m ∷ numbers) all =
    omega (arith, all.0, sum_of_all Paged n numbers all.1, sum_by-cons (λ k. k) m numbers, suc-mul (length numbers) n)

at_most : (layout : Layout) (calls made : ℕ) → HadEntries layout calls made → made ≤ calls
at_most Split calls made had = omega (arith, had)
at_most Paged calls made had = had

-- what all callers made, each of which was to make so many
pub all_calls : (layout : Layout) (callers n : ℕ) (numbers made : List ℕ) → numbers ≡ made
    → length made ≡ callers → All (HadEntries layout n) made
    → HadEntries layout (callers * n) (sum_by (λ m. m) numbers)
all_calls layout callers n numbers made read long each =
    subst (λ ns. HadEntries layout (callers * n) (sum_by (λ m. m) ns)) (sym read)
    (subst (λ k. HadEntries layout (k * n) (sum_by (λ m. m) made)) long
    (sum_of_all layout n made (recursion_from_All (HadEntries layout n) made each)))

-- the same of whole runs
pub all_made : (layout : Layout) (callers items run : ℕ) (numbers made : List ℕ) → numbers ≡ made
    → length made ≡ callers → All (HadEntries layout (items / run * (2 * run))) made
    → HadEntries layout (callers * calls_of items run) (sum_by (λ m. m) numbers)
all_made layout callers items run numbers made read long each =
    all_calls layout callers (calls_of items run) numbers made read long
    (subst (λ n. All (HadEntries layout n) made) (by_runs items run) each)

pub few_made : (layout : Layout) (calls made : ℕ) → HadEntries layout calls made → calls < 2 ^ 64 → made < 2 ^ 64
few_made layout calls made had few = omega (arith, at_most layout calls made had, few)
