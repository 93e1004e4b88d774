-- A whole drive, step after step.
use Rattle.std.proofs.Common.{◌≡◌, ℕ, ◌+◌, ◌*◌, ◌^◌, ◌<◌, ◌≤◌, cond, true, false, List, [], ◌++◌, length, refl, sym, ap, ◌∙◌, subst, arith}
use Rattle.std.specs.Prelude.{Ok, Err}
use Rattle.std.proofs.lemmas.Grind.{flat_map-append}
use Rattle.std.proofs.lemmas.List.{append-nil, length-append}
use Rattle.room_gate.specs.Shows.{Caller}
use Rattle.bay_rule.specs.declared.bay_use.BayUse.{BayUse}
use Rattle.bay_rule.specs.declared.views.BayView.{BayView}
use Rattle.bay_rule.specs.Leaving.{first_of}
use Rattle.bay_core.specs.Times.{times}
use Rattle.work_pool.specs.Shows.{Worker, IsHand}
use Rattle.work_pool.specs.Standing.{Standing}
use Rattle.work_pool.specs.Deeds.{store_of, keep_of, stored, put_by, tried, offered, handled, gained}
use Rattle.work_pool.specs.Drives.{MayFollow, Ends, last_asked, Drives}
use Rattle.bay_core.specs.declared.numbers.TheConstants.{MOST_ITEMS}
use Rattle.work_pool.specs.Running.{Runs, Asks, more_asked, Stock, Goes, Tallies}
use Rattle.work_pool.specs.Advancing.{GoesOn, GoesWanting, GoesOut}
use Rattle.work_pool.specs.declared.pools.Way.{Way}
use Rattle.work_pool.specs.declared.steps.Did.{Did}
use Rattle.work_pool.specs.declared.steps.Did.TheVariants as did
use Rattle.work_pool.specs.declared.deeds.Deed.{Deed}
use Rattle.work_pool.specs.declared.drives.Drive.{Drive}
use Rattle.work_pool.proofs.Running.{each_at, asks_more, runs_more, stock_more, goes_more, goes_none, loud_more, tallies_more, tallies_none}

-- no offer yet
abbrev pub no_offers : Drive
no_offers = record { shared = 0; kept = 0; quiet = false }

-- steps were made, and more are to come
pub record DrivesSoFar (x : BayUse) (way : Way) (leads : ℕ → ℕ → Type 0) (before now : Worker) (was is : Standing)
    (drive : Drive) : Type 0 where
  pub run : List Deed
  pub goes : Goes x way leads before now was is run
  pub tallies : Tallies no_offers drive run

-- before the first
pub no_step : (x : BayUse) (way : Way) (leads : ℕ → ℕ → Type 0) (hand : Worker) (was : Standing)
    → IsHand hand → length was.to_give ≤ was.spare
    → DrivesSoFar x way leads hand hand was was no_offers
no_step x way leads hand was mine room = record {
  run = [];
  goes = goes_none x way leads hand was mine room;
  tallies = tallies_none no_offers (omega arith);
}

-- the offers that were stored are no more than the draws
pub small_so_far : (x : BayUse) (way : Way) (leads : ℕ → ℕ → Type 0) (before now : Worker) (was is : Standing) (drive : Drive)
    → DrivesSoFar x way leads before now was is drive → (drive.shared ≤ MOST_ITEMS * now.caller.draws) × (drive.kept < 2 ^ 64)
small_so_far x way leads before now was is drive s =
    (omega (arith, s.tallies.shared, s.goes.runs.few), omega (arith, s.tallies.kept))

-- going on from there
module _ (x : BayUse) (way : Way) (leads after : ℕ → ℕ → Type 0) (weaker : (y x : ℕ) → after y x → leads y x) (before now then : Worker) (was mid is : Standing) (drive next : Drive) (s : DrivesSoFar x way leads before now was mid drive) where
  -- an item was handled
  pub step_more : GoesOn x way after now then mid is drive next → DrivesSoFar x way leads before then was is next
  step_more t = record {
    run = s.run ++ t.run;
    goes = goes_more x way leads after weaker before now then was mid is s.run t.run s.goes t.goes;
    tallies = tallies_more no_offers drive next s.run t.run s.tallies t.tallies;
  }

  -- memory was wanting
  pub wanting_drives : {E : Type 0} (error : E) → GoesWanting x way after now then mid is
      → Drives x way leads before then was is (Err error)
  wanting_drives error t =
      let run = s.run ++ t.run in
      let runs = runs_more x way leads after weaker was mid s.run s.goes.stock before now then is t.run s.goes.runs t.runs in
      record {
        run = run;
        went = runs.went;
        follows = λ past d rest at. each_at (MayFollow way leads then.caller was) [] run past d rest runs.follows at;
        given = runs.given;
        done = runs.done;
        worker = runs.worker;
        asked = asks_more before now then s.run t.run 0 s.goes.asks t.asks;
        held = t.held;
        answers = loud_more x before.caller now.caller then.caller s.run t.run s.goes.runs.went t.runs.went s.goes.loud t.loud;
      }

  -- there was no next item
  module _ (how : Did) (t : GoesOut x way after now then mid is drive next how) where
    out_runs : Runs x way leads before then was is (s.run ++ t.run)
    out_runs = runs_more x way leads after weaker was mid s.run s.goes.stock before now then is t.run s.goes.runs t.runs

    out_stock : Stock leads was is (s.run ++ t.run)
    out_stock = stock_more x way leads after weaker was mid s.run s.goes.stock is t.run t.stock

    out_tallies : Tallies no_offers next (s.run ++ t.run)
    out_tallies = tallies_more no_offers drive next s.run t.run s.tallies t.tallies

    out_often : (n : ℕ) → times n (handled (s.run ++ t.run)) ≡ times n was.kept_items + times n (gained (s.run ++ t.run))
    out_often n = omega (arith, out_stock.often n, ap (times n) t.none_kept)

    out_begins : (more : List ℕ) × (offered (s.run ++ t.run) ≡ was.to_give ++ more)
    out_begins =
        let first = out_stock.first in let all = offered (s.run ++ t.run) in
        (first.0, sym (append-nil all) ∙ (ap (λ l. all ++ l) (sym t.none_to_give) ∙ first.1))

    out_asked : Asks before then (s.run ++ t.run) (more_asked how)
    out_asked = asks_more before now then s.run t.run (more_asked how) s.goes.asks t.asks

    out_drives : {E : Type 0} (d : Drive) → Ends x before.caller then.caller was is (s.run ++ t.run) d
        → cond d.quiet 0 1 ≡ more_asked how → Drives {E = E} x way leads before then was is (Ok d)
    out_drives d ends last = record {
      run = s.run ++ t.run;
      went = out_runs.went;
      follows = λ past e rest at. each_at (MayFollow way leads then.caller was) [] (s.run ++ t.run) past e rest out_runs.follows at;
      given = out_runs.given;
      done = out_runs.done;
      worker = out_runs.worker;
      asked = omega (arith, out_asked, last);
      held = t.held;
      answers = ends;
    }

  pub quiet_drives : {E : Type 0} → GoesOut x way after now then mid is drive next did.Quiet
      → Drives {E = E} x way leads before then was is (Ok (record next { quiet = true }))
  quiet_drives t =
      let tallies = out_tallies did.Quiet t in
      out_drives did.Quiet t (record next { quiet = true }) (record {
        often = out_often did.Quiet t;
        begins = out_begins did.Quiet t;
        none_to_give = t.none_to_give;
        none_kept = t.none_kept;
        quiet = (λ _. (omega (arith, t.finds.0, s.goes.runs.went.loads), t.finds.1), λ _. refl);
        final = λ _. t.finds.3;
        since = t.finds.2 ∙ ap (λ q. first_of q (length then.caller.user.seen)) s.goes.loud.since;
        spent = λ never. absurd cc;
        shared = omega (arith, tallies.shared);
        kept = omega (arith, tallies.kept);
      }) refl

  pub spent_drives : {E : Type 0} → GoesOut x way after now then mid is drive next did.Spent
      → Drives {E = E} x way leads before then was is (Ok next)
  spent_drives {E} t =
      let tallies = out_tallies did.Spent t in
      let loud = loud_more x before.caller now.caller then.caller s.run t.run s.goes.runs.went t.runs.went s.goes.loud t.finds.0 in
      let not_quiet : record next { quiet = false } ≡ next = ap (λ q. record next { quiet = q }) (sym tallies.quiet) in
      subst (λ (d : Drive). Drives {E = E} x way leads before then was is (Ok d)) not_quiet
      (out_drives did.Spent t (record next { quiet = false }) (record {
        often = out_often did.Spent t;
        begins = out_begins did.Spent t;
        none_to_give = t.none_to_give;
        none_kept = t.none_kept;
        quiet = (λ never. absurd cc, λ both. absurd (loud.loud both.0 both.1));
        final = λ never. absurd cc;
        since = loud.since;
        spent = λ _. t.finds.1;
        shared = omega (arith, tallies.shared);
        kept = omega (arith, tallies.kept);
      }) refl)
