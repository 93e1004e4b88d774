-- One offer, and all offers.
use Rattle.std.proofs.Common.{◌≡◌, ◌⊎◌, ℕ, ◌+◌, ◌*◌, ◌^◌, ◌<◌, ◌≤◌, inl, inr, cond, eqb, List, [], ◌∷◌, ◌++◌, length, All, refl, sym, ap, ◌∙◌, subst, arith}
use Rattle.std.specs.Prelude.{Some}
use Rattle.std.specs.List.{Contains}
use Rattle.std.proofs.lemmas.Bool.{cases_eq}
use Rattle.std.proofs.lemmas.List.{append-nil}
use Rattle.std.proofs.lemmas.List.Sorted.{sum_by-IsPermutation}
use Rattle.std.proofs.lemmas.List.Elements.{All-weaker, All-contains_itself, Contains-append_right}
use Rattle.room_gate.specs.Shows.{Caller}
use Rattle.bay_core.specs.declared.calls.Op.{Op}
use Rattle.bay_core.specs.declared.calls.Entry.{Entry}
use Rattle.bay_core.specs.Times.{times}
use Rattle.bay_rule.specs.declared.bay_use.BayUse.{BayUse}
use Rattle.bay_rule.specs.declared.views.BayView.{BayView}
use Rattle.work_pool.specs.Shows.{Worker, IsHand}
use Rattle.work_pool.specs.Standing.{Standing, Gives, Keeps}
use Rattle.work_pool.specs.Ways.{puts}
use Rattle.work_pool.specs.Gaining.{Gains}
use Rattle.work_pool.specs.Puts.{IsStill, Puts}
use Rattle.work_pool.specs.Deeds.{calls, missed, tried, stored}
use Rattle.work_pool.specs.Drives.{MayOffer, Went, Loud}
use Rattle.bay_core.specs.declared.numbers.TheConstants.{MOST_ITEMS}
use Rattle.work_pool.specs.Running.{Asks, Stock, Goes, Tallies, PutsBy, OffersOne, OffersMore, OffersAll}
use Rattle.work_pool.specs.declared.pools.Way.{Way}
use Rattle.work_pool.specs.declared.puts.Put.{Put}
use Rattle.work_pool.specs.declared.puts.Put.TheVariants as put
use Rattle.work_pool.specs.declared.deeds.Deed.{Deed}
use Rattle.work_pool.specs.declared.deeds.Deed.TheVariants.{Stored, Refused, Withheld}
use Rattle.work_pool.specs.declared.drives.Drive.{Drive}
use Rattle.work_pool.proofs.Running.{goes_more, goes_none, tallies_more, tallies_none, times_both, head_in}

-- an offer, by the entry of its call if it made one
module _ (x : BayUse) (before now : Caller BayView) (es : List Entry) (gains : Gains x before now es) (still : IsStill before now) where
  went_offer : (d : Deed) → es ≡ calls (d ∷ []) → length (missed (d ∷ [])) ≡ 0 → Went x before now (d ∷ [])
  went_offer d one none = record {
    gains = subst (λ l. Gains x before now l) one gains;
    still = λ _. still.hears.live;
    loads = omega (arith, still.hears.loads, none);
    bare_loads = omega (arith, still.hears.bare_loads, none);
  }

  loud_offer : Loud before now
  loud_offer = record {
    loud = λ less. absurd (omega (arith, less, still.hears.loads));
    never = λ less. absurd (omega (arith, less, still.hears.loads));
    since = still.hears.quiet_at;
  }

-- an entry took a draw
drew_one : (x : BayUse) (before now : Caller BayView) (e : Entry) → Gains x before now (e ∷ []) → before.draws + 1 ≤ now.draws
drew_one x before now e g = elim (cases_eq now.draws before.draws) [
  | inl same ↦ absurd (omega (arith, ap length (g.drawn same)))
  | inr more ↦ omega (arith, more, g.draws)
]

-- no question was asked
asked_none : (a b : Worker) (d : Deed) → a.asked < 2 ^ 64 → b.asked ≡ a.asked → length (tried (d ∷ [])) ≡ 0 → Asks a b (d ∷ []) 0
asked_none a b d small same none = omega (arith, small, same, none)

-- the work after an offer
module _ (leads : ℕ → ℕ → Type 0) (was mid : Standing) (item : ℕ) (g : Gives was mid (Some item)) (room : length was.to_give ≤ was.spare) where
  may_first : MayOffer leads was [] item
  may_first = inl (subst (λ l. Contains l item) (sym g.0) (head_in item mid.to_give))

  spare_same : mid.spare ≡ was.spare
  spare_same = ap (λ (s : Standing). s.spare) g.1

  kept_same : mid.kept_items ≡ was.kept_items
  kept_same = ap (λ (s : Standing). s.kept_items) g.1

  given_more : mid.given ≡ was.given ++ item ∷ []
  given_more = ap (λ (s : Standing). s.given) g.1

  done_same : mid.done ≡ was.done
  done_same = ap (λ (s : Standing). s.done) g.1

  fewer : length was.to_give ≡ length mid.to_give + 1
  fewer = omega (arith, ap length g.0)

  rest_may : (d : Deed) → All (MayOffer leads was (d ∷ [])) mid.to_give
  rest_may d =
      All-weaker (Contains mid.to_give) (MayOffer leads was (d ∷ []))
      (λ x c. inl (subst (λ l. Contains l x) (sym g.0) (Contains-append_right (item ∷ []) mid.to_give x c)))
      mid.to_give (All-contains_itself mid.to_give)

  -- the item is in the pool
  stored_stock : (e : Entry) → Stock leads was mid (Stored item e ∷ [])
  stored_stock e = record {
    to_give = rest_may (Stored item e);
    often = λ n. omega (arith, ap (times n) kept_same);
    first = ([], sym g.0 ∙ sym (append-nil was.to_give));
    room = omega (arith, fewer, spare_same, room);
  }

  -- the item is kept
  kept_often : (is : Standing) → Keeps item mid is → (n : ℕ)
      → times n is.kept_items ≡ times n was.kept_items + times n (item ∷ [])
  kept_often is k n =
      omega (
        arith,
        sum_by-IsPermutation (λ y. cond (eqb y n) 1 0) is.kept_items (item ∷ mid.kept_items) k.kept_items,
        times_both n (item ∷ []) mid.kept_items,
        ap (times n) kept_same,
      )

  kept_room : (is : Standing) → Keeps item mid is → length is.to_give ≤ is.spare
  kept_room is k =
      omega (arith, ap (λ (s : Standing). length s.to_give) k.same, ap (λ (s : Standing). s.spare) k.same, fewer, spare_same, room)

  refused_stock : (e : Entry) (is : Standing) → Keeps item mid is → Stock leads was is (Refused item e ∷ [])
  refused_stock e is k = record {
    to_give = subst (All (MayOffer leads was (Refused item e ∷ []))) (sym (ap (λ (s : Standing). s.to_give) k.same)) (rest_may (Refused item e));
    often = λ n. omega (arith, kept_often is k n);
    first = ([], ap (λ (s : Standing). item ∷ s.to_give) k.same ∙ (sym g.0 ∙ sym (append-nil was.to_give)));
    room = kept_room is k;
  }

  withheld_stock : (is : Standing) → Keeps item mid is → Stock leads was is (Withheld item ∷ [])
  withheld_stock is k = record {
    to_give = subst (All (MayOffer leads was (Withheld item ∷ []))) (sym (ap (λ (s : Standing). s.to_give) k.same)) (rest_may (Withheld item));
    often = λ n. omega (arith, kept_often is k n);
    first = ([], ap (λ (s : Standing). item ∷ s.to_give) k.same ∙ (sym g.0 ∙ sym (append-nil was.to_give)));
    room = kept_room is k;
  }

  -- one offer, by the pool's answer
  pub offered_one : (x : BayUse) (way : Way) (before now : Worker) (is : Standing) (answer : Put) (drive then : Drive)
      → IsHand before → drive.kept < 2 ^ 64
      → Puts x (puts way) item before.caller now.caller answer
      → now.worker ≡ before.worker → now.asked ≡ before.asked
      → PutsBy answer mid is drive then
      → OffersOne x way leads before now was is drive then
  offered_one x way before now is (put.Shared r) drive then hand small_kept p worker asked by =
      let d = Stored item r.entry in
      record {
        deed = d;
        goes = record {
          runs = record {
            went = went_offer x before.caller now.caller (r.entry ∷ []) p.gains p.still d refl refl;
            few = omega (arith, drew_one x before.caller now.caller r.entry p.gains);
            follows = (((p.adds.call.op_is, p.adds.call.arg, p.reply_is), may_first), tt);
            given = ap (λ (s : Standing). s.given) by.0 ∙ given_more;
            done = ap (λ (s : Standing). s.done) by.0 ∙ (done_same ∙ sym (append-nil was.done));
            worker = worker;
          };
          stock = subst (λ s. Stock leads was s (d ∷ [])) (sym by.0) (stored_stock r.entry);
          loud = loud_offer x before.caller now.caller (r.entry ∷ []) p.gains p.still;
          asks = asked_none before now d hand.asked asked refl;
        };
        held = p.still.held;
        fewer = fewer ∙ ap (λ (s : Standing). length s.to_give + 1) (sym by.0);
        tallies = record {
          shared = ap (λ (z : Drive). z.shared) by.1;
          kept = ap (λ (z : Drive). z.kept) by.1 ∙ omega (arith, small_kept);
          quiet = ap (λ (z : Drive). z.quiet) by.1;
        };
      }
  offered_one x way before now is (put.Full i) drive then hand small_kept p worker asked by =
      let r = p.1 in let q = p.2 in let d = Refused item r.entry in
      let keeps : Keeps item mid is = subst (λ y. Keeps y mid is) p.0 by.0 in
      record {
        deed = d;
        goes = record {
          runs = record {
            went = went_offer x before.caller now.caller (r.entry ∷ []) q.gains q.still d refl refl;
            few = omega (arith, q.gains.draws);
            follows = (((q.adds.call.op_is, q.adds.call.arg, q.reply_is), may_first), tt);
            given = ap (λ (s : Standing). s.given) keeps.same ∙ given_more;
            done = ap (λ (s : Standing). s.done) keeps.same ∙ (done_same ∙ sym (append-nil was.done));
            worker = worker;
          };
          stock = refused_stock r.entry is keeps;
          loud = loud_offer x before.caller now.caller (r.entry ∷ []) q.gains q.still;
          asks = asked_none before now d hand.asked asked refl;
        };
        held = q.still.held;
        fewer = fewer ∙ ap (λ (s : Standing). length s.to_give + 1) (sym keeps.same);
        tallies = record {
          shared = ap (λ (z : Drive). z.shared) by.1 ∙ omega arith;
          kept = ap (λ (z : Drive). z.kept) by.1;
          quiet = ap (λ (z : Drive). z.quiet) by.1;
        };
      }
  offered_one x way before now is (put.Spent i) drive then hand small_kept p worker asked by =
      let q = p.1 in let d = Withheld item in
      let keeps : Keeps item mid is = subst (λ y. Keeps y mid is) p.0 by.0 in
      record {
        deed = d;
        goes = record {
          runs = record {
            went = went_offer x before.caller now.caller [] q.gains q.still d refl refl;
            few = omega (arith, q.gains.draws);
            follows = ((may_first, q.spent, refl), tt);
            given = ap (λ (s : Standing). s.given) keeps.same ∙ given_more;
            done = ap (λ (s : Standing). s.done) keeps.same ∙ (done_same ∙ sym (append-nil was.done));
            worker = worker;
          };
          stock = withheld_stock is keeps;
          loud = loud_offer x before.caller now.caller [] q.gains q.still;
          asks = asked_none before now d hand.asked asked refl;
        };
        held = q.still.held;
        fewer = fewer ∙ ap (λ (s : Standing). length s.to_give + 1) (sym keeps.same);
        tallies = record {
          shared = ap (λ (z : Drive). z.shared) by.1 ∙ omega arith;
          kept = ap (λ (z : Drive). z.kept) by.1;
          quiet = ap (λ (z : Drive). z.quiet) by.1;
        };
      }

-- an offer of one item is one of some
pub one_offer : (x : BayUse) (way : Way) (leads : ℕ → ℕ → Type 0) (before now : Worker) (was is : Standing) (drive then : Drive)
    → OffersOne x way leads before now was is drive then → OffersMore x way leads before now was is drive then
one_offer x way leads before now was is drive then o = record {
  run = o.deed ∷ [];
  goes = o.goes;
  held = o.held;
  fewer = omega (arith, o.fewer);
  tallies = o.tallies;
}

-- offers were made, and more may be to come
pub record OffersSoFar (x : BayUse) (way : Way) (leads : ℕ → ℕ → Type 0) (before now : Worker) (was is : Standing)
    (drive then : Drive) : Type 0 where
  pub run : List Deed
  pub goes : Goes x way leads before now was is run
  pub held : now.caller.user.held ≡ before.caller.user.held
  pub idle : was.to_give ≡ [] → is ≡ was
  pub tallies : Tallies drive then run

-- before the first
pub no_offer : (x : BayUse) (way : Way) (leads : ℕ → ℕ → Type 0) (hand : Worker) (was : Standing) (drive : Drive)
    → IsHand hand → length was.to_give ≤ was.spare → drive.kept < 2 ^ 64
    → OffersSoFar x way leads hand hand was was drive drive
no_offer x way leads hand was drive is room kept = record {
  run = [];
  goes = goes_none x way leads hand was is room;
  held = refl;
  idle = λ _. refl;
  tallies = tallies_none drive kept;
}

no_less : (xs ys : List ℕ) → xs ≡ [] → length ys < length xs → ⊥
no_less xs ys none more = absurd (omega (arith, ap length none, more))

module _ (x : BayUse) (way : Way) (leads after : ℕ → ℕ → Type 0) (weaker : (y x : ℕ) → after y x → leads y x) (before now then : Worker) (was mid is : Standing) (drive so_far next : Drive) (s : OffersSoFar x way leads before now was mid drive so_far) where
  -- one more
  pub offer_more : OffersMore x way after now then mid is so_far next → OffersSoFar x way leads before then was is drive next
  offer_more o = record {
    run = s.run ++ o.run;
    goes = goes_more x way leads after weaker before now then was mid is s.run o.run s.goes o.goes;
    held = o.held ∙ s.held;
    idle = λ none. absurd (no_less mid.to_give is.to_give (ap (λ (z : Standing). z.to_give) (s.idle none) ∙ none) o.fewer);
    tallies = tallies_more drive so_far next s.run o.run s.tallies o.tallies;
  }

-- nothing is to be given
pub offers_end : (x : BayUse) (way : Way) (leads : ℕ → ℕ → Type 0) (before now then : Worker) (was mid is : Standing) (drive so_far : Drive)
    → OffersSoFar x way leads before now was mid drive so_far → then ≡ now → is ≡ mid → mid.to_give ≡ []
    → OffersAll x way leads before then was is drive so_far
offers_end x way leads before now then was mid is drive so_far s still same none =
    let s2 = subst (λ z. OffersSoFar x way leads before now was z drive so_far) (sym same) s in
    let s3 = subst (λ z. OffersSoFar x way leads before z was is drive so_far) (sym still) s2 in
    record {
      run = s3.run;
      goes = s3.goes;
      none = ap (λ (z : Standing). z.to_give) same ∙ none;
      held = s3.held;
      idle = s3.idle;
      tallies = s3.tallies;
    }

-- a share is still held where something is to be given
pub share_more : (now then : Worker) (mid is : Standing) → then.caller.user.held ≡ now.caller.user.held
    → length is.to_give < length mid.to_give
    → (1 ≤ now.caller.user.held) ⊎ (mid.to_give ≡ []) → (1 ≤ then.caller.user.held) ⊎ (is.to_give ≡ [])
share_more now then mid is held fewer share = elim share [
  | inl some ↦ inl (omega (arith, some, held))
  | inr none ↦ absurd (no_less mid.to_give is.to_give none fewer)
]

-- the offers that were stored are no more than the draws
pub small_then : (x : BayUse) (way : Way) (leads : ℕ → ℕ → Type 0) (before now : Worker) (was is : Standing) (drive then : Drive)
    → OffersSoFar x way leads before now was is drive then → drive.shared ≤ MOST_ITEMS * before.caller.draws
    → (then.shared ≤ MOST_ITEMS * now.caller.draws) × (then.kept < 2 ^ 64)
small_then x way leads before now was is drive then s small =
    (omega (arith, s.tallies.shared, s.goes.runs.few, small), omega (arith, s.tallies.kept))
