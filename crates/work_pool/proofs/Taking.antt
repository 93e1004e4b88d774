-- A caller's tries to take an item, one after another.
use Rattle.std.proofs.Common.{◌≡◌, ◌≢◌, ℕ, ◌+◌, ◌-◌, ◌^◌, ◌<◌, ◌≤◌, min, List, [], ◌∷◌, ◌++◌, length, Option, None, All, refl, sym, ap, ◌∙◌, subst, arith}
use Rattle.std.proofs.lemmas.List.{append-nil, length-append}
use Rattle.std.proofs.lemmas.List.Elements.{All-nil, All-cons, All-append}
use Rattle.room_gate.specs.Shows.{Caller}
use Rattle.bay_core.specs.declared.calls.Op.{Op}
use Rattle.bay_core.specs.declared.calls.Reply.TheVariants as replies
use Rattle.bay_core.specs.declared.calls.Entry.{Entry}
use Rattle.bay_core.specs.declared.calls.Noted.{Noted}
use Rattle.bay_core.specs.History.{own}
use Rattle.bay_rule.specs.Leaving.{first_of}
use Rattle.bay_rule.specs.declared.bay_use.BayUse.{BayUse}
use Rattle.bay_rule.specs.declared.views.BayView.{BayView}
use Rattle.bay_store.specs.Calls.{Adds, Calls, StaysOut, TakeGives}
use Rattle.bay_store.specs.Quiet.{hearing, hearing_quiet, IsQuietFor}
use Rattle.bay_store.specs.Sharing.{holding}
use Rattle.bay_store.specs.declared.receipts.Receipt.{Receipt}
use Rattle.work_pool.specs.Shows.{Worker, IsHand}
use Rattle.work_pool.specs.Gaining.{Gains}
use Rattle.work_pool.specs.Takes.{IsTry, Takes, Works}
use Rattle.work_pool.specs.Tries.{Tries, questioned}
use Rattle.work_pool.specs.declared.takes.Taken.TheVariants.{Item, Quiet, Spent}
use Rattle.work_pool.specs.declared.tries.Tried.TheVariants as tried
use Rattle.work_pool.proofs.Gaining.{gains_none, gains_more, gains_holding, gains_hearing, gains_quiet, gains_call, gains_out, out_of_draws, hears_out}

-- the caller made tries that found nothing, and then more are to come
pub record SoFar (x : BayUse) (op : Op) (before now : Caller BayView) (empties : List Entry) : Type 0 where
  pub empty : All (IsTry op replies.Empty) empties
  pub gains : Gains x before now empties
  pub loud : before.user.loads < now.user.loads → now.user.live ≢ 0
  pub never : before.user.loads < now.user.loads → before.user.quiet_at ≡ None
  pub still : length empties ≡ 0 → now.user.live ≡ before.user.live
  pub loads : now.user.loads ≡ before.user.loads + length empties
  pub bare_loads : now.user.bare_loads ≡ before.user.bare_loads + length empties
  pub since : now.user.quiet_at ≡ before.user.quiet_at
  pub few : now.user.held ≤ 1

-- by its worker
pub record WorksSoFar (x : BayUse) (op : Op) (before now : Worker) : Type 0 where
  pub empties : List Entry
  pub tries : SoFar x op before.caller now.caller empties
  pub asked : min (now.asked + 1) (2 ^ 64 - 1) ≡ min (before.asked + length empties + 1) (2 ^ 64 - 1)
  pub same : now.worker ≡ before.worker

-- before the first try
pub none_yet : (x : BayUse) (op : Op) (hand : Worker) → IsHand hand → hand.caller.user.held ≤ 1
    → WorksSoFar x op hand hand
none_yet x op hand is few =
    let grown : (n : ℕ) → n ≡ n + 0 = λ n. omega arith in
    record {
      empties = [];
      tries = record {
        empty = All-nil _;
        gains = gains_none x hand.caller is.mine is.limited;
        loud = λ less. absurd (omega (arith, less));
        never = λ less. absurd (omega (arith, less));
        still = λ _. refl;
        loads = grown hand.caller.user.loads;
        bare_loads = grown hand.caller.user.bare_loads;
        since = refl;
        few = few;
      };
      asked = ap (λ n. min (n + 1) (2 ^ 64 - 1)) (grown hand.asked);
      same = refl;
    }

-- a share given back leaves what a call added
kept : (x : BayUse) (op : Op) (before now : Caller BayView) (r : Receipt) → Adds x op 0 before now r
    → Adds x op 0 before (holding now 1) r
kept x op before now r a = record { call = a.call; first = a.first; soon = a.soon }

-- one try more, by the bay's call and its receipt
module _ (x : BayUse) (op : Op) (before now called : Caller BayView) (es : List Entry) (r : Receipt) (so_far : SoFar x op before now es) (c : Calls x op 0 now called r) where
  gains_then : Gains x before called (es ++ r.entry ∷ [])
  gains_then =
      gains_more x before now called es (r.entry ∷ []) so_far.gains
      (gains_call x op 0 now called r (so_far.gains.mine ∙ ap (λ w. own w now.user.seen) (sym so_far.gains.who)) c)

  live_same : called.user.live ≡ now.user.live
  live_same = ap (λ (p : Caller BayView). p.user.live) c.same

  loads_same : called.user.loads ≡ before.user.loads + length es
  loads_same = ap (λ (p : Caller BayView). p.user.loads) c.same ∙ so_far.loads

  bare_same : called.user.bare_loads ≡ before.user.bare_loads + length es
  bare_same = ap (λ (p : Caller BayView). p.user.bare_loads) c.same ∙ so_far.bare_loads

  since_same : called.user.quiet_at ≡ before.user.quiet_at
  since_same = ap (λ (p : Caller BayView). p.user.quiet_at) c.same ∙ so_far.since

  longer : length (es ++ r.entry ∷ []) ≡ length es + 1
  longer = length-append es (r.entry ∷ [])

  all_empty : r.entry.reply ≡ replies.Empty → All (IsTry op replies.Empty) (es ++ r.entry ∷ [])
  all_empty is =
      All-append (IsTry op replies.Empty) es (r.entry ∷ []) so_far.empty
      (All-cons (IsTry op replies.Empty) r.entry [] (c.adds.call.op_is, c.adds.call.arg, is) (All-nil _))

  -- the bay was not quiet after
  pub nothing_more : (live : ℕ) → r.entry.reply ≡ replies.Empty → live ≢ 0 → called.user.quiet_at ≡ None
      → SoFar x op before (hearing (holding called 0) live) (es ++ r.entry ∷ [])
  nothing_more live is loud never = record {
    empty = all_empty is;
    gains = gains_hearing x before (holding called 0) (es ++ r.entry ∷ []) live
        (gains_holding x before called (es ++ r.entry ∷ []) 0 gains_then);
    loud = λ _. loud;
    never = λ _. sym since_same ∙ never;
    still = λ none. absurd (omega (arith, none, longer));
    loads = omega (arith, loads_same, longer);
    bare_loads = omega (arith, bare_same, longer);
    since = since_same;
    few = omega arith;
  }

  -- the bay was quiet after
  pub quiet_then : (h : List Noted) → r.entry.reply ≡ replies.Empty → IsQuietFor x (holding called 0) h
      → Takes x op before (hearing_quiet (holding called 0) h) (es ++ r.entry ∷ []) Quiet
  quiet_then h is q =
      let all = es ++ r.entry ∷ [] in
      record {
        empty = all_empty is;
        says = record {
          legal = q.legal;
          none = (q.no_stack, q.no_queue);
          since = q.since;
          no_share = refl;
        };
        gains = subst (λ l. Gains x before (hearing_quiet (holding called 0) h) l) (sym (append-nil all))
            (gains_quiet x before (holding called 0) all h q (gains_holding x before called all 0 gains_then));
        quiet = (λ _. (omega (arith, loads_same), refl), λ _. refl);
        never = λ _ loud. absurd (loud refl);
        still = λ none. absurd (omega (arith, none, longer));
        loads = omega (arith, loads_same, longer);
        bare_loads = omega (arith, bare_same, longer);
        since = ap (λ o. first_of o (length h)) since_same;
        held = refl;
      }

  -- the try took an item
  pub item_then : (item : ℕ) → r.entry.reply ≡ replies.Item item → Takes x op before (holding called 1) es (Item item r)
  item_then item is = record {
    empty = so_far.empty;
    says = ((c.adds.call.op_is, c.adds.call.arg, is), now, kept x op now called r c.adds);
    gains = gains_holding x before called (es ++ r.entry ∷ []) 1 gains_then;
    quiet = (λ never. absurd cc, λ both. absurd (so_far.loud (omega (arith, both.0, loads_same, so_far.loads)) (sym live_same ∙ both.1)));
    never = λ less loud. so_far.never (omega (arith, less, loads_same, so_far.loads));
    still = λ none. live_same ∙ so_far.still none;
    loads = loads_same;
    bare_loads = bare_same;
    since = since_same;
    held = refl;
  }

-- the pass was spent
spent_then : (x : BayUse) (op : Op) (before now called : Caller BayView) (es : List Entry) → SoFar x op before now es
    → StaysOut x op now called → Takes x op before (holding called 0) es Spent
spent_then x op before now called es so_far out =
    let hears = hears_out x op now called out in
    let mine = so_far.gains.mine ∙ ap (λ w. own w now.user.seen) (sym so_far.gains.who) in
    record {
      empty = so_far.empty;
      says = out_of_draws x op now called out;
      gains = gains_holding x before called (es ++ []) 0
          (gains_more x before now called es [] so_far.gains (gains_out x op now called mine out));
      quiet = (λ never. absurd cc, λ both. absurd (so_far.loud (omega (arith, both.0, hears.loads)) (sym hears.live ∙ both.1)));
      never = λ less loud. so_far.never (omega (arith, less, hears.loads));
      still = λ none. hears.live ∙ so_far.still none;
      loads = hears.loads ∙ so_far.loads;
      bare_loads = hears.bare_loads ∙ so_far.bare_loads;
      since = hears.quiet_at ∙ so_far.since;
      held = refl;
    }

asked_more : (now before n m : ℕ) → m ≡ n + 1
    → min (now + 1) (2 ^ 64 - 1) ≡ min (before + n + 1) (2 ^ 64 - 1)
    → min (min (now + 1) (2 ^ 64 - 1) + 1) (2 ^ 64 - 1) ≡ min (before + m + 1) (2 ^ 64 - 1)
asked_more now before n m more so_far = omega (arith, more, so_far)

-- the try after those so far, by its worker
module _ (x : BayUse) (op : Op) (before now then : Worker) (so_far : WorksSoFar x op before now) where
  pub item_taken : (item : ℕ) (r : Receipt) → Tries x op now.caller then.caller (tried.Got item r)
      → then ≡ questioned now then.caller → Works x op before then (Item item r)
  item_taken item r t same =
      let gave = subst (TakeGives x op now.caller t.called) t.settles.0 t.call in
      let whole : then ≡ questioned now (holding t.called 1) = same ∙ ap (questioned now) t.settles.1 in
      subst (λ (w : Worker). Works x op before w (Item item r)) (sym whole) (record {
        empties = so_far.empties;
        takes = item_then x op before.caller now.caller t.called so_far.empties r so_far.tries gave.0 item gave.1;
        asked = so_far.asked;
        same = so_far.same;
      })

  pub found_quiet : Tries x op now.caller then.caller tried.Quiet
      → then ≡ questioned now then.caller → Works x op before then Quiet
  found_quiet t same =
      let r = t.settles.0 in let h = then.caller.user.seen in
      let gave = subst (TakeGives x op now.caller t.called) t.settles.1 t.call in
      let whole : then ≡ questioned now (hearing_quiet (holding t.called 0) h) =
      same ∙ ap (questioned now) t.settles.2 in
      let es = so_far.empties in
      let longer : before.asked + length es + 1 ≡ before.asked + length (es ++ r.entry ∷ []) + 0 =
      omega (arith, length-append es (r.entry ∷ [])) in
      subst (λ (w : Worker). Works x op before w Quiet) (sym whole) (record {
        empties = so_far.empties ++ r.entry ∷ [];
        takes = quiet_then x op before.caller now.caller t.called so_far.empties r so_far.tries gave.0 h gave.1 t.settles.3;
        asked = so_far.asked ∙ ap (λ n. min n (2 ^ 64 - 1)) longer;
        same = so_far.same;
      })

  pub found_spent : Tries x op now.caller then.caller tried.Spent
      → then ≡ questioned now then.caller → Works x op before then Spent
  found_spent t same =
      let out = subst (TakeGives x op now.caller t.called) t.settles.0 t.call in
      let whole : then ≡ questioned now (holding t.called 0) = same ∙ ap (questioned now) t.settles.1 in
      subst (λ (w : Worker). Works x op before w Spent) (sym whole) (record {
        empties = so_far.empties;
        takes = spent_then x op before.caller now.caller t.called so_far.empties so_far.tries out;
        asked = so_far.asked;
        same = so_far.same;
      })

  pub still_trying : Tries x op now.caller then.caller tried.Nothing
      → then ≡ questioned now then.caller → WorksSoFar x op before then
  still_trying t same =
      let r = t.settles.0 in let live = then.caller.user.live in
      let gave = subst (TakeGives x op now.caller t.called) t.settles.1 t.call in
      let whole : then ≡ questioned now (hearing (holding t.called 0) live) =
      same ∙ ap (questioned now) t.settles.2 in
      let es = so_far.empties in
      let all = es ++ r.entry ∷ [] in
      let longer : length all ≡ length es + 1 = length-append es (r.entry ∷ []) in
      subst (λ (w : Worker). WorksSoFar x op before w) (sym whole) (record {
        empties = so_far.empties ++ r.entry ∷ [];
        tries = nothing_more x op before.caller now.caller t.called so_far.empties r so_far.tries gave.0 live gave.1 t.settles.3 t.settles.4;
        asked = asked_more now.asked before.asked (length es) (length all) longer so_far.asked;
        same = so_far.same;
      })
