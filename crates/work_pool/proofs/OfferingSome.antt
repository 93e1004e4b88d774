-- One offer of several items.
use Rattle.std.proofs.Common.{◌≡◌, ℕ, ◌+◌, ◌*◌, ◌^◌, ◌<◌, ◌≤◌, ◌-◌, min, inl, inr, cond, eqb, List, [], ◌∷◌, ◌++◌, length, take, drop, All, refl, sym, ap, ◌∙◌, subst, arith, length-take, length-drop, take-append-drop}
use Rattle.std.specs.Prelude.{Some}
use Rattle.std.specs.List.{Contains, flat_map}
use Rattle.std.proofs.lemmas.Bool.{cases_eq}
use Rattle.std.proofs.lemmas.Grind.{flat_map-append}
use Rattle.std.proofs.lemmas.List.{append-nil, append_assoc, length-append, drop_all}
use Rattle.std.proofs.lemmas.List.Sorted.{sum_by-IsPermutation}
use Rattle.std.proofs.lemmas.List.Elements.{All-weaker, All-head, All-tail, All-contains_itself, Contains-append_left, Contains-append_right}
use Rattle.room_gate.specs.Shows.{Caller}
use Rattle.bay_core.specs.declared.calls.Op.TheVariants.{Push}
use Rattle.bay_core.specs.declared.calls.Reply.{Reply}
use Rattle.bay_core.specs.declared.calls.Reply.TheVariants as replies
use Rattle.bay_core.specs.declared.calls.Entry.{Entry}
use Rattle.bay_core.specs.declared.numbers.TheConstants.{MOST_ITEMS}
use Rattle.bay_core.specs.Times.{times}
use Rattle.bay_rule.specs.declared.bay_use.BayUse.{BayUse}
use Rattle.bay_rule.specs.declared.views.BayView.{BayView}
use Rattle.bay_store.specs.Handfuls.{refused_of}
use Rattle.bay_store.specs.declared.receipts.Stop.{Stop}
use Rattle.bay_store.specs.declared.receipts.Stop.TheVariants as stops
use Rattle.work_pool.specs.Shows.{Worker, IsHand}
use Rattle.work_pool.specs.Standing.{Standing, Gives, Keeps}
use Rattle.work_pool.specs.Gaining.{Gains}
use Rattle.work_pool.specs.Several.{ArePushes, PutsSeveral}
use Rattle.work_pool.specs.Deeds.{call_of, miss_of, try_of, offer_of, store_of, keep_of, gain_of, handle_of, calls, missed, tried, offered, stored, put_by, gained, handled}
use Rattle.work_pool.specs.Drives.{MayOffer, MayFollow}
use Rattle.work_pool.specs.Running.{EachFollows, Goes, GivesSome, KeepsSome, OffersMore}
use Rattle.work_pool.specs.declared.pools.Way.{Way}
use Rattle.work_pool.specs.declared.pools.Way.TheVariants.{Stack}
use Rattle.work_pool.specs.declared.handfuls.PutSome.{PutSome}
use Rattle.work_pool.specs.declared.deeds.Deed.{Deed}
use Rattle.work_pool.specs.declared.deeds.Deed.TheVariants.{Stored, Refused, Withheld}
use Rattle.work_pool.specs.declared.drives.Drive.{Drive}
use Rattle.work_pool.proofs.Running.{times_both}

-- the deeds of items with their entries
abbrev by_entries : (ℕ → Entry → Deed) → List ℕ → List Entry → List Deed
by_entries d [] es = []
by_entries d (x ∷ xs) [] = []
by_entries d (x ∷ xs) (e ∷ es) = d x e ∷ by_entries d xs es

-- and without
abbrev withheld : List ℕ → List Deed
withheld [] = []
withheld (x ∷ xs) = Withheld x ∷ withheld xs

by_none : {A : Type 0} (d : ℕ → Entry → Deed) (f : Deed → List A) → ((x : ℕ) (e : Entry) → f (d x e) ≡ [])
    → (xs : List ℕ) (es : List Entry) → flat_map f (by_entries d xs es) ≡ []
by_none d f nil [] es = refl
by_none d f nil (x ∷ xs) [] = refl
by_none d f nil (x ∷ xs) (e ∷ es) =
    ap (λ l. l ++ flat_map f (by_entries d xs es)) (nil x e) ∙ by_none d f nil xs es

by_items : (d : ℕ → Entry → Deed) (reply : Reply) (f : Deed → List ℕ) → ((x : ℕ) (e : Entry) → f (d x e) ≡ x ∷ [])
    → (xs : List ℕ) (es : List Entry) → ArePushes reply xs es → flat_map f (by_entries d xs es) ≡ xs
by_items d reply f one [] es are = refl
by_items d reply f one (x ∷ xs) [] are = absurd are
by_items d reply f one (x ∷ xs) (e ∷ es) are =
    ap (λ l. l ++ flat_map f (by_entries d xs es)) (one x e) ∙ ap (λ l. x ∷ l) (by_items d reply f one xs es are.3)

by_calls : (d : ℕ → Entry → Deed) (reply : Reply) → ((x : ℕ) (e : Entry) → call_of (d x e) ≡ e ∷ [])
    → (xs : List ℕ) (es : List Entry) → ArePushes reply xs es → calls (by_entries d xs es) ≡ es
by_calls d reply one [] es are = sym are
by_calls d reply one (x ∷ xs) [] are = absurd are
by_calls d reply one (x ∷ xs) (e ∷ es) are =
    ap (λ l. l ++ calls (by_entries d xs es)) (one x e) ∙ ap (λ l. e ∷ l) (by_calls d reply one xs es are.3)

held_none : {A : Type 0} (f : Deed → List A) → ((x : ℕ) → f (Withheld x) ≡ []) → (xs : List ℕ) → flat_map f (withheld xs) ≡ []
held_none f nil [] = refl
held_none f nil (x ∷ xs) = ap (λ l. l ++ flat_map f (withheld xs)) (nil x) ∙ held_none f nil xs

held_items : (f : Deed → List ℕ) → ((x : ℕ) → f (Withheld x) ≡ x ∷ []) → (xs : List ℕ) → flat_map f (withheld xs) ≡ xs
held_items f one [] = refl
held_items f one (x ∷ xs) = ap (λ l. l ++ flat_map f (withheld xs)) (one x) ∙ ap (λ l. x ∷ l) (held_items f one xs)

pushes_many : (reply : Reply) (xs : List ℕ) (es : List Entry) → ArePushes reply xs es → length es ≡ length xs
pushes_many reply [] es are = ap length are
pushes_many reply (x ∷ xs) [] are = absurd are
pushes_many reply (x ∷ xs) (e ∷ es) are = omega (arith, pushes_many reply xs es are.3)

-- deeds of items that are to be given
module _ (leads : ℕ → ℕ → Type 0) (now : Caller BayView) (was : Standing) where
  each_by : (d : ℕ → Entry → Deed) (reply : Reply) (tail : List Deed)
      → ((past : List Deed) (x : ℕ) (e : Entry) (rest : List Deed) → (e.op ≡ Push) × (e.arg ≡ x) × (e.reply ≡ reply) → Contains was.to_give x
      → MayFollow Stack leads now was past (d x e) rest)
      → ((past : List Deed) → EachFollows (MayFollow Stack leads now was) past tail)
      → (xs : List ℕ) (es : List Entry) (past : List Deed) → ArePushes reply xs es → All (Contains was.to_give) xs
      → EachFollows (MayFollow Stack leads now was) past (by_entries d xs es ++ tail)
  each_by d reply tail may after [] es past are all = after past
  each_by d reply tail may after (x ∷ xs) [] past are all = absurd are
  each_by d reply tail may after (x ∷ xs) (e ∷ es) past are all = (
    may past x e (by_entries d xs es ++ tail) (are.0, are.1, are.2) (All-head (Contains was.to_give) x xs all),
    each_by d reply tail may after xs es (past ++ d x e ∷ []) are.3 (All-tail (Contains was.to_give) x xs all),
  )

  each_held : now.draws ≡ now.limit → (xs : List ℕ) (past : List Deed) → All (Contains was.to_give) xs
      → EachFollows (MayFollow Stack leads now was) past (withheld xs)
  each_held spent [] past all = tt
  each_held spent (x ∷ xs) past all = (
    (inl (All-head (Contains was.to_give) x xs all), spent, held_none call_of (λ y. refl) xs),
    each_held spent xs (past ++ Withheld x ∷ []) (All-tail (Contains was.to_give) x xs all),
  )

  -- deeds of items that come back, with the entries of their calls
  record Back (rest : List ℕ) (fs : List Entry) : Type 0 where
    run : List Deed
    calls_are : calls run ≡ fs
    no_miss : missed run ≡ []
    no_try : tried run ≡ []
    offers : offered run ≡ rest
    stores : stored run ≡ []
    keeps : put_by run ≡ rest
    gains : gained run ≡ rest
    handles : handled run ≡ []
    follows : (past : List Deed) → EachFollows (MayFollow Stack leads now was) past run

  no_more : (rest : List ℕ) (fs : List Entry) → rest ≡ [] → fs ≡ [] → Back rest fs
  no_more rest fs empty nil = record {
    run = [];
    calls_are = sym nil;
    no_miss = refl;
    no_try = refl;
    offers = sym empty;
    stores = refl;
    keeps = sym empty;
    gains = sym empty;
    handles = refl;
    follows = λ past. tt;
  }

  come_back : (stop : Stop) (rest : List ℕ) (fs : List Entry) → ArePushes replies.Full (refused_of stop rest) fs
      → (stop ≡ stops.All → rest ≡ []) → (stop ≡ stops.Overflow → ⊥) → (stop ≡ stops.Spent → now.draws ≡ now.limit)
      → All (Contains was.to_give) rest → Back rest fs
  come_back stops.All rest fs are whole never spent all = no_more rest fs (whole refl) are
  come_back stops.Full rest fs are whole never spent all = record {
    run = by_entries Refused rest fs;
    calls_are = by_calls Refused replies.Full (λ x e. refl) rest fs are;
    no_miss = by_none Refused miss_of (λ x e. refl) rest fs;
    no_try = by_none Refused try_of (λ x e. refl) rest fs;
    offers = by_items Refused replies.Full offer_of (λ x e. refl) rest fs are;
    stores = by_none Refused store_of (λ x e. refl) rest fs;
    keeps = by_items Refused replies.Full keep_of (λ x e. refl) rest fs are;
    gains = by_items Refused replies.Full gain_of (λ x e. refl) rest fs are;
    handles = by_none Refused handle_of (λ x e. refl) rest fs;
    follows = λ past. subst (λ l. EachFollows (MayFollow Stack leads now was) past l) (append-nil (by_entries Refused rest fs))
        (each_by Refused replies.Full [] (λ p x e r is c. (is, inl c)) (λ p. tt) rest fs past are all);
  }
  come_back stops.Overflow rest fs are whole never spent all = absurd (never refl)
  come_back stops.Spent rest fs are whole never spent all = record {
    run = withheld rest;
    calls_are = held_none call_of (λ x. refl) rest ∙ sym are;
    no_miss = held_none miss_of (λ x. refl) rest;
    no_try = held_none try_of (λ x. refl) rest;
    offers = held_items offer_of (λ x. refl) rest;
    stores = held_none store_of (λ x. refl) rest;
    keeps = held_items keep_of (λ x. refl) rest;
    gains = held_items gain_of (λ x. refl) rest;
    handles = held_none handle_of (λ x. refl) rest;
    follows = λ past. each_held (spent refl) rest past all;
  }

  -- the deeds of a handful: of the items that are stored, and of those that come back
  module _ (first rest : List ℕ) (es fs : List Entry) (are : ArePushes replies.Done first es) (b : Back rest fs) where
    front : List Deed
    front = by_entries Stored first es

    both : List Deed
    both = by_entries Stored first es ++ b.run

    both_calls : calls (by_entries Stored first es ++ b.run) ≡ es ++ fs
    both_calls =
        flat_map-append call_of (by_entries Stored first es) b.run
        ∙ (ap (λ l. l ++ calls b.run) (by_calls Stored replies.Done (λ x e. refl) first es are) ∙ ap (λ l. es ++ l) b.calls_are)

    -- what the stored ones are no part of
    only_back : {A : Type 0} (f : Deed → List A) (ys : List A) → ((x : ℕ) (e : Entry) → f (Stored x e) ≡ [])
        → flat_map f b.run ≡ ys → flat_map f (by_entries Stored first es ++ b.run) ≡ ys
    only_back f ys nil is =
        flat_map-append f (by_entries Stored first es) b.run
        ∙ (ap (λ l. l ++ flat_map f b.run) (by_none Stored f nil first es) ∙ is)

    both_offered : offered (by_entries Stored first es ++ b.run) ≡ first ++ rest
    both_offered =
        flat_map-append offer_of (by_entries Stored first es) b.run
        ∙ (ap (λ l. l ++ offered b.run) (by_items Stored replies.Done offer_of (λ x e. refl) first es are) ∙ ap (λ l. first ++ l) b.offers)

    both_stored : stored (by_entries Stored first es ++ b.run) ≡ first
    both_stored =
        flat_map-append store_of (by_entries Stored first es) b.run
        ∙ (ap (λ l. l ++ stored b.run) (by_items Stored replies.Done store_of (λ x e. refl) first es are)
        ∙ (ap (λ l. first ++ l) b.stores ∙ append-nil first))

    both_follow : All (Contains was.to_give) first → EachFollows (MayFollow Stack leads now was) [] (by_entries Stored first es ++ b.run)
    both_follow all = each_by Stored replies.Done b.run (λ p x e r is c. (is, inl c)) b.follows first es [] are all

-- a part of a list
all_of : (whole part : List ℕ) → ((x : ℕ) → Contains part x → Contains whole x) → All (Contains whole) part
all_of whole part inside = All-weaker (Contains part) (Contains whole) inside part (All-contains_itself part)

-- a handful, by its items and what came of it
module _ (x : BayUse) (leads : ℕ → ℕ → Type 0) (before now : Worker) (was mid is : Standing) (items : List ℕ) (answer : PutSome) (hand : IsHand before) (g : GivesSome items was mid) (k : KeepsSome (drop answer.shared items) mid is) (room : length was.to_give ≤ was.spare) (some : 1 ≤ length items) (most : length items ≤ MOST_ITEMS) (p : PutsSeveral x items before.caller now.caller answer) where
  in_items : (y : ℕ) → Contains items y → Contains was.to_give y
  in_items y c = subst (λ l. Contains l y) (sym g.first) (Contains-append_left items mid.to_give y c)

  parts : take answer.shared items ++ drop answer.shared items ≡ items
  parts = take-append-drop answer.shared items

  first_in : All (Contains was.to_give) (take answer.shared items)
  first_in = all_of was.to_give (take answer.shared items) (λ y c. in_items y (subst (λ l. Contains l y) parts (Contains-append_left (take answer.shared items) (drop answer.shared items) y c)))

  rest_in : All (Contains was.to_give) (drop answer.shared items)
  rest_in = all_of was.to_give (drop answer.shared items) (λ y c. in_items y (subst (λ l. Contains l y) parts (Contains-append_right (take answer.shared items) (drop answer.shared items) y c)))

  back : Back leads now.caller was (drop answer.shared items) p.refused
  back =
      come_back leads now.caller was answer.stop (drop answer.shared items) p.refused p.are_refused
      (λ whole. drop_all answer.shared items (omega (arith, p.all whole))) p.never p.spent rest_in

  abbrev run : List Deed
  run = by_entries Stored (take answer.shared items) p.stored ++ back.run

  run_calls : calls run ≡ p.stored ++ p.refused
  run_calls = both_calls leads now.caller was (take answer.shared items) (drop answer.shared items) p.stored p.refused p.are_stored back

  run_missed : missed run ≡ []
  run_missed = only_back leads now.caller was (take answer.shared items) (drop answer.shared items) p.stored p.refused p.are_stored back miss_of [] (λ y e. refl) back.no_miss

  run_tried : tried run ≡ []
  run_tried = only_back leads now.caller was (take answer.shared items) (drop answer.shared items) p.stored p.refused p.are_stored back try_of [] (λ y e. refl) back.no_try

  run_put_by : put_by run ≡ drop answer.shared items
  run_put_by = only_back leads now.caller was (take answer.shared items) (drop answer.shared items) p.stored p.refused p.are_stored back keep_of (drop answer.shared items) (λ y e. refl) back.keeps

  run_gained : gained run ≡ drop answer.shared items
  run_gained = only_back leads now.caller was (take answer.shared items) (drop answer.shared items) p.stored p.refused p.are_stored back gain_of (drop answer.shared items) (λ y e. refl) back.gains

  run_handled : handled run ≡ []
  run_handled = only_back leads now.caller was (take answer.shared items) (drop answer.shared items) p.stored p.refused p.are_stored back handle_of [] (λ y e. refl) back.handles

  run_offered : offered run ≡ items
  run_offered = both_offered leads now.caller was (take answer.shared items) (drop answer.shared items) p.stored p.refused p.are_stored back ∙ parts

  run_stored : stored run ≡ take answer.shared items
  run_stored = both_stored leads now.caller was (take answer.shared items) (drop answer.shared items) p.stored p.refused p.are_stored back

  many_stored : length (stored run) ≡ answer.shared
  many_stored = omega (arith, ap length run_stored, length-take answer.shared items, p.few)

  -- a draw stores no more than a handful has
  few_stored : MOST_ITEMS * before.caller.draws + length (stored run) ≤ MOST_ITEMS * now.caller.draws
  few_stored = elim (cases_eq now.caller.draws before.caller.draws) [
    | inl same ↦
        let nil = ap length (p.gains.drawn same) in
        omega (arith, nil, length-append p.stored p.refused, pushes_many replies.Done (take answer.shared items) p.stored p.are_stored, ap length run_stored, same)
    | inr more ↦ omega (arith, more, p.gains.draws, many_stored, p.few, most)
  ]

  length_given : length was.to_give ≡ length items + length mid.to_give
  length_given = ap length g.first ∙ length-append items mid.to_give

  to_give_same : is.to_give ≡ mid.to_give
  to_give_same = ap (λ (s : Standing). s.to_give) k.same

  kept_same : mid.kept_items ≡ was.kept_items
  kept_same = ap (λ (s : Standing). s.kept_items) g.same

  run_room : length is.to_give ≤ is.spare
  run_room = omega (
    arith,
    ap length to_give_same,
    length_given,
    ap (λ (s : Standing). s.spare) k.same,
    ap (λ (s : Standing). s.spare) g.same,
    length-drop answer.shared items,
    room,
  )

  run_may : All (MayOffer leads was run) is.to_give
  run_may =
      subst (All (MayOffer leads was run)) (sym to_give_same)
      (All-weaker (Contains mid.to_give) (MayOffer leads was run)
      (λ y c. inl (subst (λ l. Contains l y) (sym g.first) (Contains-append_right items mid.to_give y c)))
      mid.to_give (All-contains_itself mid.to_give))

  run_goes : now.worker ≡ before.worker → now.asked ≡ before.asked → Goes x Stack leads before now was is run
  run_goes worker asked = record {
    runs = record {
      went = record {
        gains = subst (λ l. Gains x before.caller now.caller l) (sym run_calls) p.gains;
        still = λ _. p.still.hears.live;
        loads = omega (arith, p.still.hears.loads, ap length run_missed);
        bare_loads = omega (arith, p.still.hears.bare_loads, ap length run_missed);
      };
      few = few_stored;
      follows = both_follow leads now.caller was (take answer.shared items) (drop answer.shared items) p.stored p.refused p.are_stored back first_in;
      given = ap (λ (s : Standing). s.given) k.same ∙ (ap (λ (s : Standing). s.given) g.same ∙ ap (λ l. was.given ++ l) (sym run_offered));
      done = ap (λ (s : Standing). s.done) k.same ∙ (ap (λ (s : Standing). s.done) g.same ∙ (sym (append-nil was.done) ∙ ap (λ l. was.done ++ l) (sym run_handled)));
      worker = worker;
    };
    stock = record {
      to_give = run_may;
      often = λ n. omega (arith, ap (times n) run_handled, k.kept n, ap (times n) kept_same, ap (times n) run_gained);
      first = ([], ap (λ l. l ++ is.to_give) run_offered ∙ (ap (λ l. items ++ l) to_give_same ∙ (sym g.first ∙ sym (append-nil was.to_give))));
      room = run_room;
    };
    loud = record {
      loud = λ less. absurd (omega (arith, less, p.still.hears.loads));
      never = λ less. absurd (omega (arith, less, p.still.hears.loads));
      since = p.still.hears.quiet_at;
    };
    asks = omega (arith, hand.asked, asked, ap length run_tried);
  }

  pub some_offered : (way : Way) → way ≡ Stack → (drive then : Drive) → drive.kept < 2 ^ 64
      → now.worker ≡ before.worker → now.asked ≡ before.asked
      → then ≡ record drive { shared = drive.shared + answer.shared; kept = min (drive.kept + length (drop answer.shared items)) (2 ^ 64 - 1) }
      → OffersMore x way leads before now was is drive then
  some_offered way over drive then small worker asked same =
      subst (λ (w : Way). OffersMore x w leads before now was is drive then) (sym over) (record {
        run = run;
        goes = run_goes worker asked;
        held = p.still.held;
        fewer = omega (arith, ap length to_give_same, length_given, some);
        tallies = record {
          shared = ap (λ (z : Drive). z.shared) same ∙ omega (arith, many_stored);
          kept = ap (λ (z : Drive). z.kept) same ∙ omega (arith, ap length run_put_by);
          quiet = ap (λ (z : Drive). z.quiet) same;
        };
      })

-- the items that a work gives, one after another
pub gives_none : (s : Standing) → GivesSome [] s s
gives_none s = record { first = refl; same = ap (λ l. record s { given = l }) (sym (append-nil s.given)) }

pub gives_more : (items : List ℕ) (item : ℕ) (a b c : Standing) → GivesSome items a b → Gives b c (Some item)
    → GivesSome (items ++ item ∷ []) a c
gives_more items item a b c one g = record {
  first = one.first ∙ (ap (λ l. items ++ l) g.0 ∙ sym (append_assoc items (item ∷ []) c.to_give));
  same = g.1
      ∙ (ap (λ (s : Standing). record s { given = s.given ++ item ∷ []; to_give = c.to_give }) one.same
      ∙ ap (λ l. record a { given = l; to_give = c.to_give }) (append_assoc a.given items (item ∷ [])));
}

-- where it gave none
pub gave_none : (was is : Standing) → GivesSome [] was is → is.to_give ≡ [] → (is ≡ was) × (was.to_give ≡ [])
gave_none was is g none = (
  g.same ∙ (ap (λ l. record was { given = l; to_give = is.to_give }) (append-nil was.given) ∙ ap (λ l. record was { to_give = l }) (sym g.first)),
  g.first ∙ none,
)

-- the items that it keeps, one after another
pub keeps_none : (s : Standing) → KeepsSome [] s s
keeps_none s = record { kept = λ n. omega arith; same = ap (λ n. record s { spare = n }) (omega arith) }

pub keeps_more : (items : List ℕ) (item : ℕ) (a b c : Standing) → KeepsSome items a b → Keeps item b c
    → KeepsSome (items ++ item ∷ []) a c
keeps_more items item a b c one k = record {
  kept = λ n. omega (
    arith,
    sum_by-IsPermutation (λ y. cond (eqb y n) 1 0) c.kept_items (item ∷ b.kept_items) k.kept_items,
    times_both n (item ∷ []) b.kept_items,
    one.kept n,
    times_both n items (item ∷ []),
  );
  same = k.same
      ∙ (ap (λ (s : Standing). record s { kept_items = c.kept_items; spare = s.spare - 1 }) one.same
      ∙ ap (λ n. record a { kept_items = c.kept_items; spare = n }) (omega (arith, length-append items (item ∷ []))));
}
