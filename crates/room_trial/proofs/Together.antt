-- What the callers of a trial bring back is of one bay.
use Rattle.std.proofs.Common.{◌≡◌, ℕ, suc, ◌+◌, ◌/◌, ◌<◌, ◌≤◌, inl, inr, List, [], ◌∷◌, length, map, take, get_or, reverse, refl, sym, ap, ◌∙◌, subst, arith}
use Rattle.std.specs.Prelude.{slice_index_or, IfOk, Ok}
use Rattle.std.specs.List.{AllByRecursion, sum_by}
use Rattle.std.specs.declared.result.Result.{Result}
use Rattle.std.specs.Global.{Vec}
use Rattle.std.specs.declared.alloc.AllocError.{AllocError}
use mathlib.Core.List.{reverse_aux}
use Rattle.std.proofs.lemmas.List.{length-map}
use Rattle.std.proofs.lemmas.List.Sums.{sum_by-cons}
use Rattle.std.proofs.lemmas.List.Elements.{All-from_recursion}
use Rattle.atomic_table.specs.Seated.{TableId}
use Rattle.atomic_table.proofs.Lists.{at_index, at_map}
use Rattle.room_rule.specs.Use.{IsAt}
use Rattle.room_rule.specs.Callers.{at_below, read_at, one_view}
use Rattle.room_rule.proofs.Lists.{of_map}
use Rattle.room_gate.specs.Shows.{Caller, newcomer}
use Rattle.room_gate.specs.Making.{ArePasses}
use Rattle.room_gate.specs.Closing.{AreAll}
use Rattle.room_gate.specs.Together.{EachGives}
use Rattle.room_gate.proofs.Closing.{numbered_are_all}
use Rattle.room_gate.proofs.Together.{thing_at, given_at}
use Rattle.bay_core.specs.declared.calls.Layout.{Layout}
use Rattle.bay_core.specs.declared.calls.Layout.TheVariants.{Split, Paged}
use Rattle.bay_core.specs.declared.calls.Entry.{Entry}
use Rattle.bay_core.specs.declared.calls.Noted.{Noted}
use Rattle.bay_core.specs.Noted.{after, entries}
use Rattle.bay_core.specs.History.{IsHistory, own}
use Rattle.bay_rule.specs.declared.bay_use.BayUse.{BayUse}
use Rattle.bay_rule.specs.Views.{fresh_view}
use Rattle.bay_rule.specs.declared.views.BayView.{BayView}
use Rattle.bay_store.specs.Closing.{AreFree, IsClosed, shares_of}
use Rattle.bay_store.specs.declared.closes.Closed.{Closed}
use Rattle.bay_core.specs.Told.{told}
use Rattle.room_script.specs.declared.trials.Line.{Line}
use Rattle.room_script.specs.declared.trials.Trial.{Trial}
use Rattle.room_script.specs.Trials.{Outline, outline_of}
use Rattle.room_trial.specs.Scripts.{asked, called, items_taken}
use Rattle.room_trial.specs.Callers.{MayOverflow, Answers}
use Rattle.room_trial.specs.Crews.{IsReady, EndsWell}
use Rattle.room_trial.specs.Histories.{script_of, UsesDraws, AreAnswers, IsPlayed, shares_after}
use Rattle.room_trial.specs.declared.callers.CallerEnd.{CallerEnd}
use Rattle.bay_core.proofs.Telling.{told_same}
use Rattle.bay_rule.specs.Draws.{dones}
use Rattle.room_trial.proofs.Counting.{many_told, dones_in_order}

abbrev pub Fresh : TableId → ℕ → ℕ → List (Caller BayView) → Type 0
Fresh site limit callers passes = ArePasses site limit (λ who. fresh_view 1) callers passes

-- the new pass of a caller
abbrev new_pass : TableId → ℕ → ℕ → Caller BayView
new_pass site limit who = newcomer site limit (λ w. fresh_view 1) who

-- the new passes may call
pub ready : (site : TableId) (limit callers : ℕ) (passes : List (Caller BayView))
    → Fresh site limit callers passes → (i : ℕ) (p : Caller BayView) → i < length passes
    → p ≡ slice_index_or passes i p → IsReady site callers p
ready site limit callers passes are i p h is =
    subst (λ (z : Caller BayView). IsReady site callers z) (sym (are.each i p (at_index passes i p h is))) (record {
      own = refl;
      who = omega (arith, h, are.long);
      share = omega arith;
    })

all_back_to_front : {A : Type 0} (P : A → Type 0) (xs ys : List A) → AllByRecursion P xs → AllByRecursion P ys
    → AllByRecursion P (reverse_aux xs ys)
all_back_to_front P [] ys h k = k
all_back_to_front P (x ∷ xs) ys h k = all_back_to_front P xs (x ∷ ys) h.1 (h.0, k)

-- the entries of calls of callers below a number
of_callers_below : (n : ℕ) (h : List Noted) → ((j : ℕ) (m : Noted) → IsAt h j m → m.who < n)
    → AllByRecursion (λ e. e.who < n) (entries h)
of_callers_below n [] each = tt
of_callers_below n (m ∷ h) each = (each 0 m refl, of_callers_below n h (λ j k at. each (suc j) k at))

-- what came back of a trial's callers
pub record Came (x : BayUse) (site : TableId) (o : Outline) (passes back : List (Caller BayView)) (ends : List CallerEnd)
    (lists : List (Vec Entry)) : Type 0 where
  pub fresh : Fresh site o.draws (length o.scripts) passes
  pub same : length ends ≡ length passes
  pub each : EachGives (EndsWell x o.scripts) passes ends
  pub parted_passes : back ≡ map (λ end. end.pass) ends
  pub parted_entries : map (λ list. Ok list) lists ≡ map (λ end. end.entries) ends

pub came_so : (x : BayUse) (site : TableId) (trial : Trial) (callers : ℕ) (scripts : List (Vec Line))
    (passes back : List (Caller BayView)) (ends : List CallerEnd) (lists : List (Vec Entry))
    → scripts ≡ trial.scripts.items → callers ≡ length trial.scripts.items
    → Fresh site trial.draws callers passes → length ends ≡ length passes
    → EachGives (λ p e. EndsWell x (map (λ script. script.items) scripts) p e) passes ends
    → back ≡ map (λ end. end.pass) ends
    → map (λ list. Ok list) lists ≡ map (λ end. end.entries) ends
    → Came x site (outline_of trial) passes back ends lists
came_so x site trial callers scripts passes back ends lists read many fresh same each parted_passes parted_entries = record {
  fresh = subst (λ (n : ℕ). Fresh site trial.draws n passes)
      (many ∙ sym (length-map trial.scripts.items (λ (script : Vec Line). script.items))) fresh;
  same = same;
  each = subst (λ (l : List (Vec Line)). EachGives (λ p e. EndsWell x (map (λ script. script.items) l) p e) passes ends) read each;
  parted_passes = parted_passes;
  parted_entries = parted_entries;
}

-- whether a caller's draws were used, by how often it overflowed
used_so : (layout : Layout) (draws lines again : ℕ) (es : List Entry) → MayOverflow layout again
    → lines + again ≡ draws → draws ≤ lines + 2 + dones es / 64 → UsesDraws layout draws lines es
used_so Split draws lines again es none are bound = omega (arith, none, are)
used_so Paged draws lines again es none are bound = bound

-- a list for which there was memory
abbrev some_list : Vec Entry → Result (Vec Entry) AllocError
some_list list = Ok list

-- sums are the same whose parts are, place by place
sums_same : {A B : Type 0} (f : A → ℕ) (g : B → ℕ) (xs : List A) (ys : List B) → length xs ≡ length ys
    → ((i : ℕ) (a : A) (b : B) → IsAt xs i a → IsAt ys i b → f a ≡ g b) → sum_by f xs ≡ sum_by g ys
sums_same f g [] [] long each = refl
sums_same f g [] (y ∷ ys) long each = absurd (omega (arith, long))
sums_same f g (x ∷ xs) [] long each = absurd (omega (arith, long))
sums_same f g (x ∷ xs) (y ∷ ys) long each =
    let rest = sums_same f g xs ys (omega (arith, long)) (λ i a b at there. each (suc i) a b at there) in
    omega (arith, each 0 x y refl refl, rest, sum_by-cons f x xs, sum_by-cons g y ys)

module _ (x : BayUse) (site : TableId) (o : Outline) (passes back : List (Caller BayView)) (ends : List CallerEnd) (brought : Vec (Vec Entry))
    (all : Came x site o passes back ends brought.items) where
  abbrev lists : List (Vec Entry)
  lists = brought.items

  abbrev callers : ℕ
  callers = length o.scripts

  long_back : length back ≡ callers
  long_back = ap length all.parted_passes ∙ (length-map ends (λ (end : CallerEnd). end.pass) ∙ (all.same ∙ all.fresh.long))

  long_lists : length lists ≡ callers
  long_lists =
      sym (length-map lists (λ (list : Vec Entry). some_list list))
      ∙ (ap length all.parted_entries
      ∙ (length-map ends (λ (end : CallerEnd). end.entries) ∙ (all.same ∙ all.fresh.long)))

  -- what each caller did
  ended : (i : ℕ) (e : CallerEnd) (es : Vec Entry) → IsAt ends i e → IsAt lists i es
      → Answers x (script_of o i) (new_pass site o.draws i) e.pass es.items
  ended i e es at its =
      let p = thing_at passes i (omega (arith, at_below ends i e at, all.same)) in
      let found : e.entries ≡ Ok es = one_view (map (λ end. end.entries) ends) i e.entries (Ok es)
      (at_map (λ (end : CallerEnd). end.entries) ends i e at)
      (subst (λ (l : List (Result (Vec Entry) AllocError)). IsAt l i (Ok es)) all.parted_entries
      (at_map (λ (list : Vec Entry). some_list list) lists i es its)) in
      let well = given_at (EndsWell x o.scripts) passes ends all.each i p.0 e p.1 at in
      let mine : Answers x (script_of o p.0.who) p.0 e.pass es.items =
      subst (λ (r : Result (Vec Entry) AllocError). IfOk r (λ v. Answers x (script_of o p.0.who) p.0 e.pass v.items)) found well in
      subst (λ (z : Caller BayView). Answers x (script_of o z.who) z e.pass es.items) (all.fresh.each i p.0 p.1) mine

  -- whose pass came back
  came : (i : ℕ) (p : Caller BayView) → IsAt back i p
      → (es : Vec Entry) × IsAt lists i es × Answers x (script_of o i) (new_pass site o.draws i) p es.items
  came i p at =
      let e = of_map (λ (end : CallerEnd). end.pass) ends i p
      (subst (λ (l : List (Caller BayView)). IsAt l i p) all.parted_passes at) in
      let es = thing_at lists i (omega (arith, at_below ends i e.0 e.1, all.same, all.fresh.long, long_lists)) in
      (es.0, es.1, subst (λ (z : Caller BayView). Answers x (script_of o i) (new_pass site o.draws i) z es.0.items) e.2 (ended i e.0 es.0 e.1 es.1))

  -- each pass is of its caller
  its_own : (i : ℕ) (p : Caller BayView) → IsAt back i p → (p.site ≡ site) × (p.who ≡ i)
  its_own i p at =
      let did = (came i p at).2 in
      (did.gains.site, did.gains.who)

  -- the passes that came back are those of all callers
  pub all_back : AreAll site callers back
  all_back = numbered_are_all site callers back long_back its_own

  module _ (closed : Closed) (layout : x.layout ≡ o.layout) (blocks : x.blocks ≡ o.blocks) (is : IsClosed x callers back closed) where
    -- the list of a caller has its entries in the history
    its_entries : (i : ℕ) (es : Vec Entry) → i < callers → IsAt lists i es
        → (es.items ≡ told i is.history) × AreAnswers o (reverse (entries is.history)) i es.items
    its_entries i es within at =
        let p = thing_at back i (omega (arith, within, long_back)) in
        let of = came i p.0 p.1 in
        let one : of.0 ≡ es = one_view lists i of.0 es of.1 at in
        let did : Answers x (script_of o i) (new_pass site o.draws i) p.0 es.items =
        subst (λ (v : Vec Entry). Answers x (script_of o i) (new_pass site o.draws i) p.0 v.items) one of.2 in
        let who : p.0.who ≡ i = (its_own i p.0 p.1).1 in
        let own_of : p.0.user.mine ≡ own i is.history = is.mine i p.0 p.1 ∙ ap (λ w. own w is.history) who in
        let whole : own i is.history ≡ own i p.0.user.seen = sym own_of ∙ did.gains.mine in
        let tells : es.items ≡ told i is.history =
        sym did.gains.gained ∙ sym (told_same i is.history p.0.user.seen (is.seen i p.0 p.1) whole) in
        let draws = is.draws i p.0 p.1 in
        let many : length p.0.user.mine ≡ length es.items =
        omega (arith, ap length own_of, ap length tells, many_told i is.history) in
        let stored = dones_in_order (entries is.history) in (
          tells,
          record {
            first = did.answered;
            drawn = omega (arith, did.drawn, did.gains.limited, did.gains.limit);
            whole = elim did.whole [
              | inl all ↦ inl all
              | inr spent ↦ inr (used_so o.layout o.draws (length es.items) did.again (reverse (entries is.history))
                  (subst (λ l. MayOverflow l did.again) layout did.overflows)
                  (omega (arith, did.drawn, spent, did.gains.limit))
                  (omega (arith, draws.1, many, stored, spent, did.gains.limit)))
            ];
          },
        )

    -- the shares of a caller
    its_shares : (i : ℕ) (p : Caller BayView) (es : List Entry) → IsAt back i p
        → IsAt (map (λ list. list.items) lists) i es → p.user.held ≡ 1 + items_taken es
    its_shares i p es at there =
        let list = of_map (λ (list : Vec Entry). list.items) lists i es there in
        let of = came i p at in
        let one : of.0.items ≡ es = ap (λ (v : Vec Entry). v.items) (one_view lists i of.0 list.0 of.1 list.1) ∙ list.2 in
        of.2.held ∙ ap (λ l. 1 + items_taken l) one

    all_shares : shares_of back ≡ shares_after (map (λ list. list.items) lists)
    all_shares =
        sums_same (λ (p : Caller BayView). p.user.held) (λ es. 1 + items_taken es) back (map (λ list. list.items) lists)
        (omega (arith, long_back, length-map lists (λ (list : Vec Entry). list.items), long_lists))
        its_shares

    pub of_played : IsPlayed o (record { entries = brought; closed = closed })
    of_played = record {
      bay = record {
        history = is.history;
        legal = subst (λ (b : ℕ). IsHistory o.layout b is.history) blocks
            (subst (λ (l : Layout). IsHistory l x.blocks is.history) layout is.legal);
        own = record {
          own = λ i within.
              let fits : i < callers = omega (arith, within, length-map lists (λ (list : Vec Entry). list.items), long_lists) in
              let es = thing_at lists i (omega (arith, fits, long_lists)) in
              read_at (map (λ list. list.items) lists) i es.0.items [] (at_map (λ (list : Vec Entry). list.items) lists i es.0 es.1)
              ∙ (its_entries i es.0 fits es.1).0;
          callers = All-from_recursion (λ e. e.who < length (map (λ list. list.items) lists)) (reverse (entries is.history))
              (all_back_to_front (λ (e : Entry). e.who < length (map (λ list. list.items) lists)) (entries is.history) []
              (of_callers_below (length (map (λ list. list.items) lists)) is.history (λ j n at.
              let of = is.calls j n at in
              omega (arith, of.3, is.numbers of.0 of.1 of.2, length-map lists (λ (list : Vec Entry). list.items), long_lists))) tt);
        };
        many = length-map lists (λ (list : Vec Entry). list.items) ∙ long_lists;
        answers = λ i within.
            let es = thing_at lists i (omega (arith, within, long_lists)) in
            let read : get_or (map (λ list. list.items) lists) i [] ≡ es.0.items =
            read_at (map (λ list. list.items) lists) i es.0.items [] (at_map (λ (list : Vec Entry). list.items) lists i es.0 es.1) in
            subst (AreAnswers o (reverse (entries is.history)) i) (sym read) (its_entries i es.0 within es.1).1;
      };
      stack = is.stack;
      queue = is.queue;
      live = is.live
          ∙ omega (arith, ap length is.stack, ap length is.queue, all_shares);
      blocks_free = subst (λ (b : ℕ). AreFree o.layout b (after is.history) closed.blocks_free) blocks
          (subst (λ (l : Layout). AreFree l x.blocks (after is.history) closed.blocks_free) layout is.blocks_free);
    }
