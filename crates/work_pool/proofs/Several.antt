-- What a handful of the bay tells of its caller's own calls.
use Rattle.std.proofs.Common.{◌≡◌, ◌≢◌, ◌⊎◌, ℕ, ◌+◌, ◌<◌, ◌≤◌, inl, inr, cond, true, false, Bool, List, [], ◌∷◌, ◌++◌, length, reverse, take, drop, eqb, eq-eqb, refl, sym, ap, ◌∙◌, subst, arith, take-add, drop-drop}
use Rattle.std.proofs.lemmas.List.{append-nil, append_assoc, reverse-append}
use Rattle.std.proofs.lemmas.List.Elements.{filter-append}
use Rattle.room_gate.specs.Shows.{Caller}
use Rattle.bay_core.specs.declared.calls.Op.TheVariants.{Push}
use Rattle.bay_core.specs.declared.calls.Reply.{Reply}
use Rattle.bay_core.specs.declared.calls.Reply.TheVariants as replies
use Rattle.bay_core.specs.declared.calls.Entry.{Entry}
use Rattle.bay_core.specs.declared.calls.Noted.{Noted}
use Rattle.bay_core.specs.Noted.{entries}
use Rattle.bay_core.specs.History.{own, GoesOn}
use Rattle.bay_core.specs.Told.{of_caller, told}
use Rattle.bay_core.proofs.OwnCalls.{own_same}
use Rattle.bay_core.proofs.Telling.{told_same, goes_further}
use Rattle.bay_rule.specs.declared.bay_use.BayUse.{BayUse}
use Rattle.bay_rule.specs.declared.views.BayView.{BayView}
use Rattle.bay_rule.specs.Leaving.{note, pushed, pushes}
use Rattle.bay_rule.specs.Entries.{entered, entered_some}
use Rattle.bay_store.specs.Acting.{AddsNone}
use Rattle.bay_store.specs.Adding.{known}
use Rattle.bay_store.specs.Handfuls.{refused_of, AddsSome, GainsSome, DrawsSome, Puts, PutsOnce, HasSpilled, PutsSome}
use Rattle.bay_store.specs.Handfuls.HasSpilled.{none, more}
use Rattle.bay_store.specs.declared.receipts.Stop.{Stop}
use Rattle.bay_store.specs.declared.receipts.Stop.TheVariants as stops
use Rattle.work_pool.specs.Gaining.{IsEmptied, EndsWith, Gains}
use Rattle.work_pool.specs.Puts.{IsStill}
use Rattle.work_pool.specs.Several.{ArePushes, PutsSeveral}
use Rattle.work_pool.specs.declared.handfuls.PutSome.{PutSome}
use Rattle.work_pool.proofs.Gaining.{gains_none, gains_more}

-- the entries of pushes of these items in their order, the first of which has this rank
abbrev listed : ℕ → ℕ → ℕ → Reply → List ℕ → List Entry
listed turn rank who reply [] = []
listed turn rank who reply (x ∷ xs) =
    record { turn = turn; rank = rank; who = who; op = Push; arg = x; reply = reply } ∷ listed turn (rank + 1) who reply xs

-- the entries of both lists of a handful
abbrev listed_some : ℕ → ℕ → ℕ → List ℕ → List ℕ → List Entry
listed_some turn rank who stored refused =
    listed turn rank who replies.Done stored ++ listed turn (rank + length stored) who replies.Full refused

module _ (t c : ℕ) where
  listed_are : (reply : Reply) (r : ℕ) (xs : List ℕ) → ArePushes reply xs (listed t r c reply xs)
  listed_are reply r [] = refl
  listed_are reply r (x ∷ xs) = (refl, refl, refl, listed_are reply (r + 1) xs)

  -- they are the caller's own
  of_listed : (reply : Reply) (r : ℕ) (xs : List ℕ) → of_caller c (listed t r c reply xs) ≡ listed t r c reply xs
  of_listed reply r [] = refl
  of_listed reply r (x ∷ xs) =
      let e : Entry = record { turn = t; rank = r; who = c; op = Push; arg = x; reply = reply } in
      let rest = listed t (r + 1) c reply xs in
      let one : of_caller c (e ∷ []) ≡ e ∷ [] = ap (λ b. cond b (e ∷ []) []) (eq-eqb c c refl) in
      filter-append (λ (d : Entry). eqb d.who c) (e ∷ []) rest
      ∙ (ap (λ l. l ++ of_caller c rest) one ∙ ap (λ l. e ∷ l) (of_listed reply (r + 1) xs))

  entered_back : (reply : Reply) (r : ℕ) (xs : List ℕ) (es : List Entry)
      → reverse (entered t r c reply xs es) ≡ reverse es ++ listed t r c reply xs
  entered_back reply r [] es = sym (append-nil (reverse es))
  entered_back reply r (x ∷ xs) es =
      let e : Entry = record { turn = t; rank = r; who = c; op = Push; arg = x; reply = reply } in
      let rest = listed t (r + 1) c reply xs in
      entered_back reply (r + 1) xs (e ∷ es)
      ∙ (ap (λ l. l ++ rest) (reverse-append (e ∷ []) es) ∙ append_assoc (reverse es) (e ∷ []) rest)

  some_back : (r : ℕ) (stored refused : List ℕ) (es : List Entry)
      → reverse (entered_some t r c stored refused es) ≡ reverse es ++ listed_some t r c stored refused
  some_back r stored refused es =
      let one = listed t r c replies.Done stored in let two = listed t (r + length stored) c replies.Full refused in
      entered_back replies.Full (r + length stored) refused (entered t r c replies.Done stored es)
      ∙ (ap (λ l. l ++ two) (entered_back replies.Done r stored es) ∙ append_assoc (reverse es) one two)

  of_some : (r : ℕ) (stored refused : List ℕ) → of_caller c (listed_some t r c stored refused) ≡ listed_some t r c stored refused
  of_some r stored refused =
      let one = listed t r c replies.Done stored in let two = listed t (r + length stored) c replies.Full refused in
      filter-append (λ (d : Entry). eqb d.who c) one two
      ∙ (ap (λ l. l ++ of_caller c two) (of_listed replies.Done r stored) ∙ ap (λ l. one ++ l) (of_listed replies.Full (r + length stored) refused))

  -- what they tell after a history
  told_some : (r : ℕ) (stored refused : List ℕ) (seen h : List Noted)
      → entries seen ≡ entered_some t r c stored refused (entries h)
      → told c seen ≡ told c h ++ listed_some t r c stored refused
  told_some r stored refused seen h is =
      let all = listed_some t r c stored refused in
      ap (λ es. of_caller c (reverse es)) is
      ∙ (ap (of_caller c) (some_back r stored refused (entries h))
      ∙ (filter-append (λ (d : Entry). eqb d.who c) (reverse (entries h)) all
      ∙ ap (λ l. told c h ++ l) (of_some r stored refused)))

  -- all calls of a handful are this caller's
  own_pushed : (b : Bool) (r : ℕ) (xs : List ℕ) (h : List Noted) → own c (pushed t r c b xs h) ≡ pushed t r c b xs (own c h)
  own_pushed b r [] h = refl
  own_pushed b r (x ∷ xs) h =
      own_pushed b (r + 1) xs (note t r c Push x b ∷ h)
      ∙ ap (λ l. pushed t (r + 1) c b xs l) (own_same (note t r c Push x b) h c refl)

  own_pushes : (r : ℕ) (stored refused : List ℕ) (h : List Noted)
      → own c (pushes t r c stored refused h) ≡ pushes t r c stored refused (own c h)
  own_pushes r stored refused h =
      own_pushed false (r + length stored) refused (pushed t r c true stored h)
      ∙ ap (λ l. pushed t (r + length stored) c false refused l) (own_pushed true r stored h)

  -- and what stood before them is told by what stands after
  before_pushed : (b : Bool) (r : ℕ) (xs : List ℕ) (h k : List Noted) → pushed t r c b xs h ≡ pushed t r c b xs k → h ≡ k
  before_pushed b r [] h k same = same
  before_pushed b r (x ∷ xs) h k same =
      let both : note t r c Push x b ∷ h ≡ note t r c Push x b ∷ k = before_pushed b (r + 1) xs (note t r c Push x b ∷ h) (note t r c Push x b ∷ k) same in
      cc

  before_pushes : (r : ℕ) (stored refused : List ℕ) (h k : List Noted)
      → pushes t r c stored refused h ≡ pushes t r c stored refused k → h ≡ k
  before_pushes r stored refused h k same =
      before_pushed true r stored h k
      (before_pushed false (r + length stored) refused (pushed t r c true stored h) (pushed t r c true stored k) same)

  goes_pushed : (b : Bool) (r : ℕ) (xs : List ℕ) (h : List Noted) → GoesOn (pushed t r c b xs h) h
  goes_pushed b r [] h = ([], refl)
  goes_pushed b r (x ∷ xs) h =
      goes_further (pushed t (r + 1) c b xs (note t r c Push x b ∷ h)) (note t r c Push x b ∷ h) h
      (goes_pushed b (r + 1) xs (note t r c Push x b ∷ h)) (note t r c Push x b ∷ [], refl)

  goes_pushes : (r : ℕ) (stored refused : List ℕ) (h : List Noted) → GoesOn (pushes t r c stored refused h) h
  goes_pushes r stored refused h =
      goes_further (pushes t r c stored refused h) (pushed t r c true stored h) h
      (goes_pushed false (r + length stored) refused (pushed t r c true stored h)) (goes_pushed true r stored h)

  -- the newest one is this caller's
  ends_pushed : (b : Bool) (r : ℕ) (xs : List ℕ) (h : List Noted) → (0 < length xs) ⊎ EndsWith c h → EndsWith c (pushed t r c b xs h)
  ends_pushed b r [] h some = elim some [ inl less ↦ absurd (omega (arith, less)) | inr ends ↦ ends ]
  ends_pushed b r (x ∷ xs) h some = ends_pushed b (r + 1) xs (note t r c Push x b ∷ h) (inr refl)

  ends_pushes : (r : ℕ) (stored refused : List ℕ) (h : List Noted) → 0 < length stored + length refused
      → EndsWith c (pushes t r c stored refused h)
  ends_pushes r [] refused h some = ends_pushed false (r + 0) refused h (inl (omega (arith, some)))
  ends_pushes r (x ∷ stored) refused h some =
      ends_pushed false (r + length (x ∷ stored)) refused (pushed t r c true (x ∷ stored) h)
      (inr (ends_pushed true r (x ∷ stored) h (inl (omega arith))))

-- pushes of items, and of items after them
pushes_both : (reply : Reply) (xs ys : List ℕ) (es fs : List Entry) → ArePushes reply xs es → ArePushes reply ys fs
    → ArePushes reply (xs ++ ys) (es ++ fs)
pushes_both reply [] ys es fs one two = subst (λ l. ArePushes reply ys (l ++ fs)) (sym one) two
pushes_both reply (x ∷ xs) ys [] fs one two = absurd one
pushes_both reply (x ∷ xs) ys (e ∷ es) fs one two =
    (one.0, one.1, one.2, pushes_both reply xs ys es fs one.3 two)

no_item : (xs : List ℕ) → length xs ≡ 0 → xs ≡ []
no_item [] empty = refl
no_item (x ∷ xs) empty = absurd (omega (arith, empty))

-- what one handful of a call gained
record Hands (x : BayUse) (stored refused : List ℕ) (before now : Caller BayView) : Type 0 where
  es : List Entry
  fs : List Entry
  are_stored : ArePushes replies.Done stored es
  are_refused : ArePushes replies.Full refused fs
  gains : Gains x before now (es ++ fs)

-- one fetch-and-add
module _ (x : BayUse) (items : List ℕ) (stored : ℕ) (stop : Stop) (before now : Caller BayView) (mine : before.user.mine ≡ own before.who before.user.seen) (p : Puts x items stored stop before now) where
  first_items : List ℕ
  first_items = take stored items

  others : List ℕ
  others = refused_of stop (drop stored items)

  same_who : now.who ≡ before.who
  same_who = ap (λ (q : Caller BayView). q.who) p.same

  drew : now.draws ≡ before.draws + 1
  drew = ap (λ (q : Caller BayView). q.draws) p.same

  same_limit : now.limit ≡ before.limit
  same_limit = ap (λ (q : Caller BayView). q.limit) p.same

  some_gained : AddsSome x before.who p.turn p.rank (take stored items) (refused_of stop (drop stored items)) p.draws.history before.user.mine (known now.user)
      → Gains x before now (listed_some p.turn p.rank before.who (take stored items) (refused_of stop (drop stored items)))
  some_gained a =
      let t = p.turn in let c = before.who in let h = p.draws.history in let r = p.rank in
      let s = take stored items in let f = refused_of stop (drop stored items) in
      let same_own : before.user.mine ≡ own c h = before_pushes t c r s f before.user.mine (own c h)
      (sym a.mine ∙ (a.all_mine ∙ (ap (own c) a.seen ∙ own_pushes t c r s f h))) in
      record {
        site = ap (λ (q : Caller BayView). q.site) p.same;
        who = same_who;
        limit = same_limit;
        draws = omega (arith, drew);
        limited = omega (arith, drew, same_limit, p.had);
        drawn = λ same. absurd (omega (arith, same, drew));
        goes_on = goes_further now.user.seen h before.user.seen (subst (λ l. GoesOn l h) (sym a.seen) (goes_pushes t c r s f h)) p.draws.goes_on;
        mine = a.all_mine;
        gained = told_some t c r s f now.user.seen h a.told
            ∙ ap (λ l. l ++ listed_some t r c s f) (told_same c h before.user.seen p.draws.goes_on (sym same_own ∙ mine));
        sees = inr (record {
          legal = a.legal;
          ends = inl (subst (λ l. EndsWith now.who l) (sym a.seen) (subst (λ w. EndsWith w (pushes t r c s f h)) (sym same_who) (ends_pushes t c r s f h a.some)));
          since = a.since;
        });
      }

  none_gained : AddsNone before.user now.user → Gains x before now []
  none_gained a = record {
    site = ap (λ (q : Caller BayView). q.site) p.same;
    who = same_who;
    limit = same_limit;
    draws = omega (arith, drew);
    limited = omega (arith, drew, same_limit, p.had);
    drawn = λ same. refl;
    goes_on = ([], a.seen);
    mine = a.mine ∙ (mine ∙ (ap (λ w. own w before.user.seen) (sym same_who) ∙ ap (own now.who) (sym a.seen))) ∙ ap (λ w. own w now.user.seen) same_who;
    gained = ap (told before.who) a.seen ∙ sym (append-nil (told before.who before.user.seen));
    sees = inl (a.seen, ap (λ (q : Caller BayView). q.user.quiet_at) p.same);
  }

  hands_puts : Hands x (take stored items) (refused_of stop (drop stored items)) before now
  hands_puts = elim p.draws.gains [
    | inl a ↦ record {
      es = listed p.turn p.rank before.who replies.Done (take stored items);
      fs = listed p.turn (p.rank + length (take stored items)) before.who replies.Full (refused_of stop (drop stored items));
      are_stored = listed_are p.turn before.who replies.Done p.rank (take stored items);
      are_refused = listed_are p.turn before.who replies.Full (p.rank + length (take stored items)) (refused_of stop (drop stored items));
      gains = some_gained a;
    }
    | inr a ↦ record {
      es = [];
      fs = [];
      are_stored = subst (λ l. ArePushes replies.Done l []) (sym (no_item (take stored items) (omega (arith, a.0)))) refl;
      are_refused = subst (λ l. ArePushes replies.Full l []) (sym (no_item (refused_of stop (drop stored items)) (omega (arith, a.0)))) refl;
      gains = none_gained a.1;
    }
  ]

-- handfuls that overflowed, one after another
module _ (x : BayUse) (items : List ℕ) (before : Caller BayView) (mine : before.user.mine ≡ own before.who before.user.seen) (limited : before.draws ≤ before.limit) where
  -- one more, after those that stored so many
  then_hands : (stored part : ℕ) (stop : Stop) (mid now : Caller BayView)
      → Hands x (take stored items) [] before mid → Puts x (drop stored items) part stop mid now
      → Hands x (take (stored + part) items) (refused_of stop (drop (stored + part) items)) before now
  then_hands stored part stop mid now one p =
      let mid_mine = one.gains.mine ∙ ap (λ w. own w mid.user.seen) (sym one.gains.who) in
      let two = hands_puts x (drop stored items) part stop mid now mid_mine p in
      let first = ap (λ l. one.es ++ l) one.are_refused ∙ append-nil one.es in
      record {
        es = one.es ++ two.es;
        fs = two.fs;
        are_stored = subst (λ l. ArePushes replies.Done l (one.es ++ two.es)) (sym (take-add stored part items))
            (pushes_both replies.Done (take stored items) (take part (drop stored items)) one.es two.es one.are_stored two.are_stored);
        are_refused = subst (λ l. ArePushes replies.Full (refused_of stop l) two.fs) (drop-drop part stored items) two.are_refused;
        gains = subst (λ l. Gains x before now l) (sym (append_assoc one.es two.es two.fs))
            (gains_more x before mid now one.es (two.es ++ two.fs) (subst (λ l. Gains x before mid l) first one.gains) two.gains);
      }

  hands_spilled : (times stored : ℕ) (now : Caller BayView) → HasSpilled x items before times stored now
      → Hands x (take stored items) [] before now
  hands_spilled _ _ _ none = record {
    es = [];
    fs = [];
    are_stored = refl;
    are_refused = refl;
    gains = gains_none x before mine limited;
  }
  hands_spilled _ _ _ (more times stored part mid now run p) =
      then_hands stored part stops.Overflow mid now (hands_spilled times stored mid run) p

  -- and the last one, or none
  last_hands : (spilled part : ℕ) (stop : Stop) (mid now : Caller BayView) → (stop ≡ stops.Overflow → ⊥)
      → Hands x (take spilled items) [] before mid → PutsOnce x (drop spilled items) part stop mid now
      → Hands x (take (spilled + part) items) (refused_of stop (drop (spilled + part) items)) before now
  last_hands spilled part stops.All mid now never one p = then_hands spilled part stops.All mid now one p
  last_hands spilled part stops.Full mid now never one p = then_hands spilled part stops.Full mid now one p
  last_hands spilled part stops.Overflow mid now never one p = absurd (never refl)
  last_hands spilled part stops.Spent mid now never one p =
      let same : spilled ≡ spilled + part = omega (arith, p.1) in
      subst (λ (q : Caller BayView). Hands x (take (spilled + part) items) [] before q) (sym p.2)
      (subst (λ n. Hands x (take n items) [] before mid) same one)

  last_spent : (spilled part : ℕ) (stop : Stop) (mid now : Caller BayView) → PutsOnce x (drop spilled items) part stop mid now
      → stop ≡ stops.Spent → now.draws ≡ now.limit
  last_spent spilled part stops.All mid now p never = absurd cc
  last_spent spilled part stops.Full mid now p never = absurd cc
  last_spent spilled part stops.Overflow mid now p never = absurd cc
  last_spent spilled part stops.Spent mid now p is = subst (λ (q : Caller BayView). q.draws ≡ q.limit) (sym p.2) p.0

  -- a whole call
  pub several_tells : (now : Caller BayView) (answer : PutSome)
      → PutsSome x items before now (record { stored = answer.shared; stop = answer.stop })
      → PutsSeveral x items before now answer
  several_tells now answer p =
      let whole = last_hands p.spilled p.part answer.stop p.mid now p.answered (hands_spilled p.again p.spilled p.mid p.run) p.last in
      let hands : Hands x (take answer.shared items) (refused_of answer.stop (drop answer.shared items)) before now =
      subst (λ n. Hands x (take n items) (refused_of answer.stop (drop n items)) before now) (sym p.stored) whole in
      record {
        call = p;
        few = p.few;
        all = p.all;
        never = p.answered;
        stored = hands.es;
        refused = hands.fs;
        are_stored = hands.are_stored;
        are_refused = hands.are_refused;
        gains = hands.gains;
        spent = last_spent p.spilled p.part answer.stop p.mid now p.last;
        still = record {
          held = ap (λ (q : Caller BayView). q.user.held) p.same;
          hears = record {
            quiet_at = ap (λ (q : Caller BayView). q.user.quiet_at) p.same;
            loads = ap (λ (q : Caller BayView). q.user.loads) p.same;
            bare_loads = ap (λ (q : Caller BayView). q.user.bare_loads) p.same;
            live = ap (λ (q : Caller BayView). q.user.live) p.same;
          };
        };
      }
