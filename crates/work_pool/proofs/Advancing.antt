-- Going on by one item: what is kept, or offers and the step after them.
use Rattle.std.proofs.Common.{◌≡◌, ◌⊎◌, ℕ, ◌+◌, ◌*◌, ◌^◌, ◌<◌, ◌≤◌, inl, inr, List, [], ◌∷◌, ◌++◌, length, refl, sym, ap, ◌∙◌, subst, arith}
use Rattle.std.specs.Prelude.{Some}
use Rattle.std.proofs.lemmas.Grind.{flat_map-append}
use Rattle.std.proofs.lemmas.List.{length-append}
use Rattle.bay_rule.specs.declared.bay_use.BayUse.{BayUse}
use Rattle.bay_rule.specs.Leaving.{first_of}
use Rattle.work_pool.specs.Shows.{Worker, IsHand}
use Rattle.work_pool.specs.Standing.{Standing, Unkeeps}
use Rattle.work_pool.specs.Deeds.{store_of, keep_of, stored, put_by}
use Rattle.work_pool.specs.Running.{more_asked, Tallies, OffersNone, OffersAll, FindsOut, HandlesOne, Steps, StepsOn, StepsWanting, StepsOut}
use Rattle.work_pool.specs.Advancing.{GoesOn, GoesWanting, GoesOut, Advances}
use Rattle.work_pool.specs.declared.pools.Way.{Way}
use Rattle.work_pool.specs.declared.steps.Did.{Did}
use Rattle.work_pool.specs.declared.steps.Did.TheVariants as did
use Rattle.work_pool.specs.declared.deeds.Deed.{Deed}
use Rattle.work_pool.specs.declared.drives.Drive.{Drive}
use Rattle.work_pool.proofs.Running.{asks_more, runs_more, stock_more, goes_more, goes_none, loud_more}
use Rattle.work_pool.proofs.Stepping.{one_held}

-- The share that a worker holds: one, or none where its work has nothing to give and keeps nothing.
abbrev pub HasShare : Worker → Standing → Type 0
HasShare hand is =
    (hand.caller.user.held ≡ 1)
    ⊎ ((hand.caller.user.held ≡ 0) × (is.to_give ≡ []) × (is.kept_items ≡ []))

pub share_to_offer : (hand : Worker) (is : Standing) → HasShare hand is
    → (1 ≤ hand.caller.user.held) ⊎ (is.to_give ≡ [])
share_to_offer hand is share = elim share [ inl one ↦ inl (omega (arith, one)) | inr none ↦ inr none.1 ]

pub share_to_step : (x : BayUse) (way : Way) (leads : ℕ → ℕ → Type 0) (hand then : Worker) (is after : Standing) (drive next : Drive)
    → OffersAll x way leads hand then is after drive next → HasShare hand is
    → (then.caller.user.held ≡ 1) ⊎ ((then.caller.user.held ≡ 0) × (after.kept_items ≡ []))
share_to_step x way leads hand then is after drive next o share = elim share [
  | inl one ↦ inl (o.held ∙ one)
  | inr none ↦ inr (o.held ∙ none.0, ap (λ (s : Standing). s.kept_items) (o.idle none.1) ∙ none.2)
]

-- who has an item holds a share
pub one_share : (hand : Worker) (was mid : Standing) (item : ℕ) → Unkeeps was mid (Some item) → HasShare hand was → hand.caller.user.held ≡ 1
one_share hand was mid item u share =
    one_held hand was mid item u (elim share [ inl one ↦ inl one | inr none ↦ inr (none.0, none.2) ])

-- offers of the same work, by what may lead to an item
pub offers_weaker : (x : BayUse) (way : Way) (leads after : ℕ → ℕ → Type 0) → ((y x : ℕ) → after y x → leads y x)
    → (hand now : Worker) (was mid is : Standing) (drive next : Drive) → IsHand hand → length was.to_give ≤ was.spare → mid ≡ was
    → OffersAll x way after hand now mid is drive next → OffersAll x way leads hand now was is drive next
offers_weaker x way leads after weaker hand now was mid is drive next mine room same o =
    let o2 = subst (λ (s : Standing). OffersAll x way after hand now s is drive next) same o in
    record {
      run = o2.run;
      goes = goes_more x way leads after weaker hand hand now was was is [] o2.run (goes_none x way leads hand was mine room) o2.goes;
      none = o2.none;
      held = o2.held;
      idle = o2.idle;
      tallies = o2.tallies;
    }

-- where nothing was offered
tallies_silent : (a b : Drive) (r1 r2 : List Deed) → Tallies a b r1 → OffersNone r2 → Tallies a b (r1 ++ r2)
tallies_silent a b r1 r2 t none = record {
  shared = t.shared ∙ omega (arith, none.0, ap length (flat_map-append store_of r1 r2), length-append (stored r1) (stored r2));
  kept = t.kept ∙ omega (arith, none.1, ap length (flat_map-append keep_of r1 r2), length-append (put_by r1) (put_by r2));
  quiet = t.quiet;
}

tallies_still : (drive : Drive) (run : List Deed) → drive.kept < 2 ^ 64 → OffersNone run → Tallies drive drive run
tallies_still drive run small none = record { shared = omega (arith, none.0); kept = omega (arith, none.1, small); quiet = refl }

-- an item that is kept, handled without an offer
pub kept_advances : (x : BayUse) (way : Way) (leads : ℕ → ℕ → Type 0) (leads_on : ℕ → Type 0) (item : ℕ) (hand now : Worker) (was mid is : Standing)
    (drive : Drive) (d : Did) → drive.kept < 2 ^ 64
    → HandlesOne leads_on item hand now mid is d → Steps x way leads hand now was is d
    → Advances x way leads hand now was is drive drive d
kept_advances x way leads leads_on item hand now was mid is drive did.Handled small h s = record {
  run = s.run;
  goes = s.goes;
  held = s.held;
  tallies = tallies_still drive s.run small s.silent;
}
kept_advances x way leads leads_on item hand now was mid is drive (did.Wanting error) small h s = record {
  run = s.run;
  runs = s.runs;
  loud = s.loud;
  asks = s.asks;
  held = s.held;
}
kept_advances x way leads leads_on item hand now was mid is drive did.Quiet small h s = absurd h
kept_advances x way leads leads_on item hand now was mid is drive did.Spent small h s = absurd h

-- a step after offers
module _ (x : BayUse) (way : Way) (leads after : ℕ → ℕ → Type 0) (weaker : (y x : ℕ) → after y x → leads y x) (before now then : Worker) (was mid is : Standing) (drive next : Drive) (o : OffersAll x way leads before now was mid drive next) where
  out_finds : (d : Did) (t : StepsOut x way after now then mid is d) → FindsOut x d now.caller then.caller → FindsOut x d before.caller then.caller
  out_finds did.Handled t f = absurd f
  out_finds (did.Wanting error) t f = absurd f
  out_finds did.Quiet t f = (
    omega (arith, f.0, o.goes.runs.went.loads),
    f.1,
    f.2 ∙ ap (λ q. first_of q (length then.caller.user.seen)) o.goes.loud.since,
    f.3,
  )
  out_finds did.Spent t f =
      (loud_more x before.caller now.caller then.caller o.run t.run o.goes.runs.went t.runs.went o.goes.loud f.0, f.1)

  out_advances : (d : Did) → StepsOut x way after now then mid is d → GoesOut x way leads before then was is drive next d
  out_advances d t = record {
    run = o.run ++ t.run;
    runs = runs_more x way leads after weaker was mid o.run o.goes.stock before now then is t.run o.goes.runs t.runs;
    stock = stock_more x way leads after weaker was mid o.run o.goes.stock is t.run t.stock;
    asks = asks_more before now then o.run t.run (more_asked d) o.goes.asks t.asks;
    none_to_give = ap (λ (z : Standing). z.to_give) t.same ∙ o.none;
    none_kept = ap (λ (z : Standing). z.kept_items) t.same ∙ t.none;
    held = t.held;
    finds = out_finds d t t.finds;
    tallies = tallies_silent drive next o.run t.run o.tallies t.silent;
  }

  pub offers_advance : (d : Did) → Steps x way after now then mid is d → Advances x way leads before then was is drive next d
  offers_advance did.Handled t = record {
    run = o.run ++ t.run;
    goes = goes_more x way leads after weaker before now then was mid is o.run t.run o.goes t.goes;
    held = t.held;
    tallies = tallies_silent drive next o.run t.run o.tallies t.silent;
  }
  offers_advance (did.Wanting error) t = record {
    run = o.run ++ t.run;
    runs = runs_more x way leads after weaker was mid o.run o.goes.stock before now then is t.run o.goes.runs t.runs;
    loud = loud_more x before.caller now.caller then.caller o.run t.run o.goes.runs.went t.runs.went o.goes.loud t.loud;
    asks = asks_more before now then o.run t.run 0 o.goes.asks t.asks;
    held = t.held;
  }
  offers_advance did.Quiet t = out_advances did.Quiet t
  offers_advance did.Spent t = out_advances did.Spent t
