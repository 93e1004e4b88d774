-- One step of a drive: an item that is kept or taken, and handled.
use Rattle.std.proofs.Common.{◌≡◌, ◌⊎◌, ℕ, ◌+◌, ◌≤◌, inl, inr, cond, eqb, List, [], ◌∷◌, ◌++◌, length, map, All, refl, sym, ap, ◌∙◌, subst, arith}
use Rattle.std.specs.Prelude.{Some, None}
use Rattle.std.specs.List.{Contains, flat_map}
use Rattle.std.proofs.lemmas.Grind.{flat_map-append}
use Rattle.std.proofs.lemmas.List.{append-nil, length-append}
use Rattle.std.proofs.lemmas.List.Sorted.{sum_by-IsPermutation, Contains-permutation, length_permutation, IsPermutation-refl, IsPermutation-sym}
use Rattle.std.proofs.lemmas.List.Elements.{All-weaker, All-append, All-contains_itself, All-head, All-tail, Contains-append_left}
use Rattle.room_gate.specs.Shows.{Caller}
use Rattle.bay_core.specs.declared.calls.Reply.TheVariants as replies
use Rattle.bay_core.specs.declared.calls.Entry.{Entry}
use Rattle.bay_rule.specs.declared.bay_use.BayUse.{BayUse}
use Rattle.bay_rule.specs.declared.views.BayView.{BayView}
use Rattle.bay_core.specs.History.{own}
use Rattle.bay_core.specs.Times.{times}
use Rattle.bay_store.specs.Sharing.{holding}
use Rattle.bay_store.specs.declared.receipts.Receipt.{Receipt}
use Rattle.work_pool.specs.Shows.{Worker, IsHand}
use Rattle.work_pool.specs.Standing.{Standing, Handles, Unkeeps, Lacks}
use Rattle.work_pool.specs.Ways.{takes}
use Rattle.work_pool.specs.Gaining.{Gains}
use Rattle.work_pool.specs.Takes.{IsTry, Takes, Works, item_entry}
use Rattle.work_pool.specs.Deeds.{call_of, miss_of, try_of, offer_of, store_of, keep_of, gain_of, handle_of, calls, missed, tried, stored, put_by, gained}
use Rattle.work_pool.specs.Drives.{MayOffer, MayFollow, Went, Loud}
use Rattle.work_pool.specs.Running.{EachFollows, Runs, Asks, Stock, Goes, OffersNone, HandlesOne, Steps, StepsOn, StepsWanting}
use Rattle.work_pool.specs.declared.pools.Way.{Way}
use Rattle.work_pool.specs.declared.takes.Taken.{Taken}
use Rattle.work_pool.specs.declared.takes.Taken.TheVariants as taken
use Rattle.work_pool.specs.declared.steps.Did.{Did}
use Rattle.work_pool.specs.declared.steps.Did.TheVariants as did
use Rattle.work_pool.specs.declared.deeds.Deed.{Deed}
use Rattle.work_pool.specs.declared.deeds.Deed.TheVariants.{Missed, Took, Handled}
use Rattle.work_pool.proofs.Running.{went_none, went_still, went_holding, runs_more, stock_more, asks_none, asks_more, goes_more, goes_none, times_both, head_in}

-- the deeds of a take
abbrev took : Taken → List Deed
took (taken.Item item r) = Took item r.entry ∷ []
took _ = []

abbrev deeds : List Entry → Taken → List Deed
deeds es answer = map Missed es ++ took answer

-- what tries that found nothing are no part of
missed_none : {A : Type 0} (f : Deed → List A) → ((e : Entry) → f (Missed e) ≡ []) → (es : List Entry)
    → flat_map f (map Missed es) ≡ []
missed_none f none [] = refl
missed_none f none (e ∷ es) =
    ap (λ xs. xs ++ flat_map f (map Missed es)) (none e) ∙ missed_none f none es

took_none : {A : Type 0} (f : Deed → List A) → ((item : ℕ) (e : Entry) → f (Took item e) ≡ []) → (answer : Taken)
    → flat_map f (took answer) ≡ []
took_none f none (taken.Item item r) = append-nil (f (Took item r.entry)) ∙ none item r.entry
took_none f none taken.Quiet = refl
took_none f none taken.Spent = refl

deeds_none : {A : Type 0} (f : Deed → List A) → ((e : Entry) → f (Missed e) ≡ []) → ((item : ℕ) (e : Entry) → f (Took item e) ≡ [])
    → (es : List Entry) (answer : Taken) → flat_map f (deeds es answer) ≡ []
deeds_none f none no_item es answer =
    flat_map-append f (map Missed es) (took answer)
    ∙ (ap (λ xs. xs ++ flat_map f (took answer)) (missed_none f none es) ∙ took_none f no_item answer)

deeds_gained : (es : List Entry) (answer : Taken) → gained (deeds es answer) ≡ gained (took answer)
deeds_gained es answer =
    flat_map-append gain_of (map Missed es) (took answer)
    ∙ ap (λ xs. xs ++ gained (took answer)) (missed_none gain_of (λ e. refl) es)

missed_calls : (es : List Entry) → calls (map Missed es) ≡ es
missed_calls [] = refl
missed_calls (e ∷ es) = ap (λ xs. e ∷ xs) (missed_calls es)

missed_missed : (es : List Entry) → missed (map Missed es) ≡ es
missed_missed [] = refl
missed_missed (e ∷ es) = ap (λ xs. e ∷ xs) (missed_missed es)

took_calls : (answer : Taken) → calls (took answer) ≡ item_entry answer
took_calls (taken.Item item r) = refl
took_calls taken.Quiet = refl
took_calls taken.Spent = refl

deeds_calls : (es : List Entry) (answer : Taken) → calls (deeds es answer) ≡ es ++ item_entry answer
deeds_calls es answer =
    flat_map-append call_of (map Missed es) (took answer)
    ∙ (ap (λ xs. xs ++ calls (took answer)) (missed_calls es) ∙ ap (λ xs. es ++ xs) (took_calls answer))

deeds_missed : (es : List Entry) (answer : Taken) → missed (deeds es answer) ≡ es
deeds_missed es answer =
    flat_map-append miss_of (map Missed es) (took answer)
    ∙ (ap (λ xs. xs ++ missed (took answer)) (missed_missed es)
    ∙ (ap (λ xs. es ++ xs) (took_none miss_of (λ item e. refl) answer) ∙ append-nil es))

missed_tried : (es : List Entry) → tried (map Missed es) ≡ es
missed_tried [] = refl
missed_tried (e ∷ es) = ap (λ xs. e ∷ xs) (missed_tried es)

took_tried : (answer : Taken) → tried (took answer) ≡ item_entry answer
took_tried (taken.Item item r) = refl
took_tried taken.Quiet = refl
took_tried taken.Spent = refl

deeds_tried : (es : List Entry) (answer : Taken) → tried (deeds es answer) ≡ es ++ item_entry answer
deeds_tried es answer =
    flat_map-append try_of (map Missed es) (took answer)
    ∙ (ap (λ xs. xs ++ tried (took answer)) (missed_tried es) ∙ ap (λ xs. es ++ xs) (took_tried answer))

each_missed : (way : Way) (leads : ℕ → ℕ → Type 0) (caller : Caller BayView) (was : Standing) (tail : List Deed)
    → ((past : List Deed) → EachFollows (MayFollow way leads caller was) past tail)
    → (es : List Entry) (past : List Deed) → All (IsTry (takes way) replies.Empty) es
    → EachFollows (MayFollow way leads caller was) past (map Missed es ++ tail)
each_missed way leads caller was tail after [] past all = after past
each_missed way leads caller was tail after (e ∷ es) past all =
    (All-head (IsTry (takes way) replies.Empty) e es all, each_missed way leads caller was tail after es (past ++ Missed e ∷ []) (All-tail (IsTry (takes way) replies.Empty) e es all))

took_follows : (way : Way) (leads : ℕ → ℕ → Type 0) (caller : Caller BayView) (was : Standing) (x : BayUse) (before now : Caller BayView) (es : List Entry) (answer : Taken)
    → Takes x (takes way) before now es answer → (past : List Deed)
    → EachFollows (MayFollow way leads caller was) past (took answer)
took_follows way leads caller was x before now es (taken.Item item r) t past = (t.says.0, tt)
took_follows way leads caller was x before now es taken.Quiet t past = tt
took_follows way leads caller was x before now es taken.Spent t past = tt

-- nothing was offered
deeds_silent : (es : List Entry) (answer : Taken) → OffersNone (deeds es answer)
deeds_silent es answer = (
  ap length (deeds_none store_of (λ e. refl) (λ item e. refl) es answer),
  ap length (deeds_none keep_of (λ e. refl) (λ item e. refl) es answer),
)

-- what a take leaves of its caller
module _ (way : Way) (leads : ℕ → ℕ → Type 0) (x : BayUse) (before now : Worker) (answer : Taken) (w : Works x (takes way) before now answer) where
  took_went : Went x before.caller now.caller (deeds w.empties answer)
  took_went =
      let found = ap length (deeds_missed w.empties answer) in
      record {
        gains = subst (λ l. Gains x before.caller now.caller l) (sym (deeds_calls w.empties answer)) w.takes.gains;
        still = λ none. w.takes.still (omega (arith, none, found));
        loads = omega (arith, w.takes.loads, found);
        bare_loads = omega (arith, w.takes.bare_loads, found);
      }

  took_runs : (was is : Standing) → is.given ≡ was.given → is.done ≡ was.done
      → Runs x way leads before now was is (deeds w.empties answer)
  took_runs was is given done = record {
    went = took_went;
    few = omega (arith, w.takes.gains.draws, ap length (deeds_none store_of (λ e. refl) (λ item e. refl) w.empties answer));
    follows = each_missed way leads now.caller was (took answer) (took_follows way leads now.caller was x before.caller now.caller w.empties answer w.takes) w.empties [] w.takes.empty;
    given = given ∙ (sym (append-nil was.given) ∙ ap (λ l. was.given ++ l) (sym (deeds_none offer_of (λ e. refl) (λ item e. refl) w.empties answer)));
    done = done ∙ (sym (append-nil was.done) ∙ ap (λ l. was.done ++ l) (sym (deeds_none handle_of (λ e. refl) (λ item e. refl) w.empties answer)));
    worker = w.same;
  }

  took_stock : (was is : Standing) → is.to_give ≡ was.to_give → length is.to_give ≤ is.spare
      → ((n : ℕ) → times n is.kept_items ≡ times n was.kept_items + times n (gained (took answer)))
      → Stock leads was is (deeds w.empties answer)
  took_stock was is same room kept = record {
    to_give = subst (All (MayOffer leads was (deeds w.empties answer))) (sym same)
        (All-weaker (Contains was.to_give) (MayOffer leads was (deeds w.empties answer)) (λ x c. inl c) was.to_give (All-contains_itself was.to_give));
    often = λ n. omega (
      arith,
      ap (times n) (deeds_none handle_of (λ e. refl) (λ item e. refl) w.empties answer),
      kept n,
      ap (times n) (deeds_gained w.empties answer),
    );
    first = (
      [],
      ap (λ l. l ++ is.to_give) (deeds_none offer_of (λ e. refl) (λ item e. refl) w.empties answer) ∙ (same ∙ sym (append-nil was.to_give)),
    );
    room = room;
  }

  -- the bay was not found quiet
  took_loud : (answer ≡ taken.Quiet → ⊥) → now.caller.user.quiet_at ≡ before.caller.user.quiet_at
      → Loud before.caller now.caller
  took_loud not since = record {
    loud = λ less zero. not (w.takes.quiet.1 (less, zero));
    never = λ less. w.takes.never less (λ zero. not (w.takes.quiet.1 (less, zero)));
    since = since;
  }

-- it is a hand still
hand_now : (way : Way) (x : BayUse) (before now : Worker) (answer : Taken) → IsHand before
    → Works x (takes way) before now answer → IsHand now
hand_now way x before now answer is w =
    let g = w.takes.gains in
    record {
      mine = g.mine ∙ ap (λ c. own c now.caller.user.seen) (sym g.who);
      limited = g.limited;
      few = omega (arith, g.limit, is.few);
      asked = omega (arith, w.asked);
    }

-- the questions of a take
asks_item : (way : Way) (x : BayUse) (before now : Worker) (item : ℕ) (r : Receipt)
    → (w : Works x (takes way) before now (taken.Item item r)) → Asks before now (deeds w.empties (taken.Item item r)) 0
asks_item way x before now item r w =
    omega (arith, w.asked, ap length (deeds_tried w.empties (taken.Item item r)), length-append w.empties (r.entry ∷ []))

asks_quiet : (way : Way) (x : BayUse) (before now : Worker)
    → (w : Works x (takes way) before now taken.Quiet) → Asks before now (deeds w.empties taken.Quiet) 0
asks_quiet way x before now w =
    omega (arith, w.asked, ap length (deeds_tried w.empties taken.Quiet ∙ append-nil w.empties))

asks_spent : (way : Way) (x : BayUse) (before now : Worker)
    → (w : Works x (takes way) before now taken.Spent) → Asks before now (deeds w.empties taken.Spent) 1
asks_spent way x before now w =
    omega (arith, w.asked, ap length (deeds_tried w.empties taken.Spent ∙ append-nil w.empties))

-- an item was taken, and is had as one that is kept
abbrev had : Standing → ℕ → Standing
had was item = record was { kept_items = item ∷ was.kept_items }

item_goes : (way : Way) (leads : ℕ → ℕ → Type 0) (x : BayUse) (before now : Worker) (item : ℕ) (r : Receipt) (was : Standing)
    → (w : Works x (takes way) before now (taken.Item item r)) → length was.to_give ≤ was.spare
    → Goes x way leads before now was (had was item) (deeds w.empties (taken.Item item r))
item_goes way leads x before now item r was w room = record {
  runs = took_runs way leads x before now (taken.Item item r) w was (had was item) refl refl;
  stock = took_stock way leads x before now (taken.Item item r) w was (had was item) refl room
      (λ n. omega (arith, times_both n (item ∷ []) was.kept_items));
  loud = took_loud way leads x before now (taken.Item item r) w (λ never. absurd cc) w.takes.since;
  asks = asks_item way x before now item r w;
}

-- an item that is had, handled or not
module _ (x : BayUse) (way : Way) (leads : ℕ → ℕ → Type 0) (after : ℕ → Type 0) (item : ℕ) (weaker : (y : ℕ) → after y → leads item y) (was mid is : Standing) (u : Unkeeps was mid (Some item)) where
  mid_given : mid.given ≡ was.given
  mid_given = ap (λ (s : Standing). s.given) u.2

  mid_done : mid.done ≡ was.done
  mid_done = ap (λ (s : Standing). s.done) u.2

  mid_to_give : mid.to_give ≡ was.to_give
  mid_to_give = ap (λ (s : Standing). s.to_give) u.2

  all_may : Handles after item mid is → All (MayOffer leads was (Handled item ∷ [])) is.to_give
  all_may h =
      subst (All (MayOffer leads was (Handled item ∷ []))) (sym (ap (λ (s : Standing). s.to_give) h.same ∙ ap (λ l. l ++ h.more) mid_to_give))
      (All-append (MayOffer leads was (Handled item ∷ [])) was.to_give h.more
      (All-weaker (Contains was.to_give) (MayOffer leads was (Handled item ∷ [])) (λ x c. inl c) was.to_give (All-contains_itself was.to_give))
      (All-weaker after (MayOffer leads was (Handled item ∷ [])) (λ x led. inr (item, head_in item [], weaker x led)) h.more h.led))

  had_often : Handles after item mid is → (n : ℕ)
      → times n (item ∷ []) + times n is.kept_items ≡ times n was.kept_items
  had_often h n =
      omega (
        arith,
        sum_by-IsPermutation (λ y. cond (eqb y n) 1 0) was.kept_items (item ∷ mid.kept_items) u.0,
        times_both n (item ∷ []) mid.kept_items,
        ap (λ (s : Standing). times n s.kept_items) h.same,
      )

  handled_goes : (hand : Worker) → IsHand hand
      → Handles after item mid is → Goes x way leads hand hand was is (Handled item ∷ [])
  handled_goes hand mine h =
      record {
        runs = record {
          went = went_still x hand.caller hand.caller (Handled item) (went_none x hand mine) refl refl;
          few = omega arith;
          follows = (
            Contains-append_left was.kept_items [] item (Contains-permutation (item ∷ mid.kept_items) was.kept_items item
                (IsPermutation-sym was.kept_items (item ∷ mid.kept_items) u.0) (head_in item mid.kept_items)),
            tt,
          );
          given = ap (λ (s : Standing). s.given) h.same ∙ (mid_given ∙ sym (append-nil was.given));
          done = ap (λ (s : Standing). s.done) h.same ∙ ap (λ l. l ++ item ∷ []) mid_done;
          worker = refl;
        };
        stock = record {
          to_give = all_may h;
          often = λ n. omega (arith, had_often h n);
          first = (h.more, ap (λ (s : Standing). s.to_give) h.same ∙ ap (λ l. l ++ h.more) mid_to_give);
          room = h.room;
        };
        loud = record { loud = λ less. absurd (omega (arith, less)); never = λ less. absurd (omega (arith, less)); since = refl };
        asks = asks_none hand mine;
      }

  lacking_runs : (hand : Worker) → IsHand hand
      → Lacks mid is → Runs x way leads hand (record hand { caller = holding hand.caller 0 }) was is []
  lacking_runs hand mine l = record {
    went = went_holding x hand.caller hand.caller [] 0 (went_none x hand mine);
    few = omega arith;
    follows = tt;
    given = l.given ∙ (mid_given ∙ sym (append-nil was.given));
    done = l.done ∙ (mid_done ∙ sym (append-nil was.done));
    worker = refl;
  }

  -- one that was kept
  pub kept_steps : (hand now : Worker) (did : Did) → IsHand hand
      → hand.caller.user.held ≡ 1
      → HandlesOne after item hand now mid is did → Steps x way leads hand now was is did
  kept_steps hand now did.Handled mine one h =
      subst (λ (z : Worker). StepsOn x way leads hand z was is) (sym h.0) (record {
        run = Handled item ∷ [];
        goes = handled_goes hand mine h.1;
        held = one;
        silent = (refl, refl);
      })
  kept_steps hand now (did.Wanting error) mine one h =
      subst (λ (z : Worker). StepsWanting x way leads hand z was is) (sym h.0) (record {
        run = [];
        runs = lacking_runs hand mine h.1;
        loud = record { loud = λ less. absurd (omega (arith, less)); never = λ less. absurd (omega (arith, less)); since = refl };
        asks = asks_none hand mine;
        held = refl;
        silent = (refl, refl);
      })
  kept_steps hand now did.Quiet mine one h = absurd h
  kept_steps hand now did.Spent mine one h = absurd h

had_is : (was : Standing) (item : ℕ) → Unkeeps (had was item) was (Some item)
had_is was item = (IsPermutation-refl (item ∷ was.kept_items), omega arith, refl)

both_silent : (r1 r2 : List Deed) → OffersNone r1 → OffersNone r2 → OffersNone (r1 ++ r2)
both_silent r1 r2 one two = (
  omega (arith, one.0, two.0, ap length (flat_map-append store_of r1 r2), length-append (stored r1) (stored r2)),
  omega (arith, one.1, two.1, ap length (flat_map-append keep_of r1 r2), length-append (put_by r1) (put_by r2)),
)

-- an item that was taken
module _ (way : Way) (leads : ℕ → ℕ → Type 0) (after : ℕ → Type 0) (item : ℕ) (weaker : (y : ℕ) → after y → leads item y) (x : BayUse) (before now : Worker) (r : Receipt) (hand : IsHand before) (w : Works x (takes way) before now (taken.Item item r)) (was is : Standing) (room : length was.to_give ≤ was.spare) where
  first : Goes x way leads before now was (had was item) (deeds w.empties (taken.Item item r))
  first = item_goes way leads x before now item r was w room

  pub took_steps : (then : Worker) (did : Did) → HandlesOne after item now then was is did
      → Steps x way leads before then was is did
  took_steps then did.Handled h =
      let one = deeds w.empties (taken.Item item r) in
      subst (λ (z : Worker). StepsOn x way leads before z was is) (sym h.0) (record {
        run = one ++ Handled item ∷ [];
        goes = goes_more x way leads leads (λ y x l. l) before now now was (had was item) is one (Handled item ∷ []) first
            (handled_goes x way leads after item weaker (had was item) was is (had_is was item) now (hand_now way x before now (taken.Item item r) hand w) h.1);
        held = w.takes.held;
        silent = both_silent one (Handled item ∷ []) (deeds_silent w.empties (taken.Item item r)) (refl, refl);
      })
  took_steps then (did.Wanting error) h =
      let one = deeds w.empties (taken.Item item r) in
      let rested : Worker = record now { caller = holding now.caller 0 } in
      subst (λ (z : Worker). StepsWanting x way leads before z was is) (sym h.0) (record {
        run = one ++ [];
        runs = runs_more x way leads leads (λ y z l. l) was (had was item) one first.stock before now rested is [] first.runs
            (lacking_runs x way leads after item weaker (had was item) was is (had_is was item) now (hand_now way x before now (taken.Item item r) hand w) h.1);
        loud = record { loud = first.loud.loud; never = first.loud.never; since = first.loud.since };
        asks = asks_more before now rested one [] 0 first.asks (asks_none now (hand_now way x before now (taken.Item item r) hand w));
        held = refl;
        silent = both_silent one [] (deeds_silent w.empties (taken.Item item r)) (refl, refl);
      })
  took_steps then did.Quiet h = absurd h
  took_steps then did.Spent h = absurd h

-- nothing was taken
pub quiet_steps : (way : Way) (leads : ℕ → ℕ → Type 0) (x : BayUse) (before now : Worker) (was : Standing)
    → Works x (takes way) before now taken.Quiet → length was.to_give ≤ was.spare → was.kept_items ≡ []
    → Steps x way leads before now was was did.Quiet
quiet_steps way leads x before now was w room none = record {
  run = deeds w.empties taken.Quiet;
  runs = took_runs way leads x before now taken.Quiet w was was refl refl;
  stock = took_stock way leads x before now taken.Quiet w was was refl room (λ n. omega arith);
  none = none;
  same = refl;
  asks = asks_quiet way x before now w;
  held = w.takes.held;
  finds =
      let heard = w.takes.quiet.0 refl in
      (heard.0, heard.1, w.takes.since, w.takes.says);
  silent = deeds_silent w.empties taken.Quiet;
}

pub spent_steps : (way : Way) (leads : ℕ → ℕ → Type 0) (x : BayUse) (before now : Worker) (was : Standing)
    → Works x (takes way) before now taken.Spent → length was.to_give ≤ was.spare → was.kept_items ≡ []
    → Steps x way leads before now was was did.Spent
spent_steps way leads x before now was w room none = record {
  run = deeds w.empties taken.Spent;
  runs = took_runs way leads x before now taken.Spent w was was refl refl;
  stock = took_stock way leads x before now taken.Spent w was was refl room (λ n. omega arith);
  none = none;
  same = refl;
  asks = asks_spent way x before now w;
  held = w.takes.held;
  finds = (took_loud way leads x before now taken.Spent w (λ never. absurd cc) w.takes.since, w.takes.says);
  silent = deeds_silent w.empties taken.Spent;
}

-- a step of the same work, by what may lead to an item
pub steps_weaker : (x : BayUse) (way : Way) (leads after : ℕ → ℕ → Type 0) → ((y x : ℕ) → after y x → leads y x)
    → (hand now : Worker) (was is : Standing) (did : Did)
    → IsHand hand → length was.to_give ≤ was.spare
    → Steps x way after hand now was is did → Steps x way leads hand now was is did
steps_weaker x way leads after weaker hand now was is did.Handled mine room s =
    record {
      run = s.run;
      goes = goes_more x way leads after weaker hand hand now was was is [] s.run (goes_none x way leads hand was mine room) s.goes;
      held = s.held;
      silent = s.silent;
    }
steps_weaker x way leads after weaker hand now was is (did.Wanting error) mine room s =
    let none = goes_none x way leads hand was mine room in
    record {
      run = s.run;
      runs = runs_more x way leads after weaker was was [] none.stock hand hand now is s.run none.runs s.runs;
      loud = s.loud;
      asks = s.asks;
      held = s.held;
      silent = s.silent;
    }
steps_weaker x way leads after weaker hand now was is did.Quiet mine room s =
    let none = goes_none x way leads hand was mine room in
    record {
      run = s.run;
      runs = runs_more x way leads after weaker was was [] none.stock hand hand now is s.run none.runs s.runs;
      stock = stock_more x way leads after weaker was was [] none.stock is s.run s.stock;
      asks = s.asks;
      none = s.none;
      same = s.same;
      held = s.held;
      finds = s.finds;
      silent = s.silent;
    }
steps_weaker x way leads after weaker hand now was is did.Spent mine room s =
    let none = goes_none x way leads hand was mine room in
    record {
      run = s.run;
      runs = runs_more x way leads after weaker was was [] none.stock hand hand now is s.run none.runs s.runs;
      stock = stock_more x way leads after weaker was was [] none.stock is s.run s.stock;
      asks = s.asks;
      none = s.none;
      same = s.same;
      held = s.held;
      finds = s.finds;
      silent = s.silent;
    }

-- nothing is to be given, so there is room for it
pub room_none : (was : Standing) → was.to_give ≡ [] → length was.to_give ≤ was.spare
room_none was none = omega (arith, ap length none)

-- with an item kept, a share is held
pub one_held : (hand : Worker) (was mid : Standing) (item : ℕ) → Unkeeps was mid (Some item)
    → (hand.caller.user.held ≡ 1) ⊎ ((hand.caller.user.held ≡ 0) × (was.kept_items ≡ []))
    → hand.caller.user.held ≡ 1
one_held hand was mid item u share = elim share [
  | inl one ↦ one
  | inr none ↦ absurd (omega (arith, ap length none.1, length_permutation was.kept_items (item ∷ mid.kept_items) u.0))
]

-- where nothing was kept
pub none_steps : (x : BayUse) (way : Way) (leads after : ℕ → ℕ → Type 0) → ((y x : ℕ) → after y x → leads y x)
    → (hand now : Worker) (was mid is : Standing) (did : Did) → Unkeeps was mid None
    → IsHand hand → length was.to_give ≤ was.spare
    → Steps x way after hand now mid is did → Steps x way leads hand now was is did
none_steps x way leads after weaker hand now was mid is did u mine room s =
    steps_weaker x way leads after weaker hand now was is did mine room
    (subst (λ (z : Standing). Steps x way after hand now z is did) u.1 s)
