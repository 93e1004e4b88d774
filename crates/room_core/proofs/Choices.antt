-- What a leaver's loads tell it, and that the room which it names opens next.
use Rattle.std.proofs.Common.{◌≡◌, ℕ, suc, ◌+◌, ◌<◌, ◌≤◌, true, false, List, [], ◌∷◌, ◌++◌, length, get_or, set, reverse, Option, Some, None, refl, sym, ap, ◌∙◌, subst, inl, inr, ◌⊎◌, arith}
use Rattle.std.proofs.lemmas.List.{get_or-set_same, get_or-set_other, reverse-reverse}
use Rattle.std.proofs.lemmas.Bool.{cases_eq}
use Rattle.room_core.specs.declared.acts.Act.{Act}
use Rattle.room_core.specs.declared.phases.Phase.{Phase}
use Rattle.room_core.specs.declared.phases.Phase.TheVariants.{Out, Seizing, Counting, Admitting, Inside, Passing}
use Rattle.room_core.specs.declared.words.Touch.{Touch}
use Rattle.room_core.specs.declared.words.Touch.TheVariants.{Load, Store}
use Rattle.room_core.specs.declared.words.Word.TheVariants.{Wait, Grant, Active}
use Rattle.room_core.specs.declared.items.Item.{Item}
use Rattle.room_core.specs.declared.items.Item.TheVariants.{Opened, Entered, Left, ExitBegun, ExitEnded}
use Rattle.room_core.specs.Words.{Words, touched}
use Rattle.room_core.specs.Active.{code_of, pack}
use Rattle.room_core.specs.Machine.{Row}
use Rattle.room_core.specs.Runs.{Moment, World, happens}
use Rattle.room_core.specs.Trace.{is_exiting, trace, onto, openings}
use Rattle.room_core.specs.Order.{trace_of}
use Rattle.room_core.specs.Openings.{opened as opened_in_order, granted}
use Rattle.room_core.specs.Admission.{drawn}
use Rattle.room_core.proofs.Order.{split_back_at, trace-reverse, all_opened-reverse, last_to-granted}
use Rattle.room_core.proofs.Admitting.{length_opened, draws-reverse}
use Rattle.room_core.proofs.Backward.{draws, last_to}
use Rattle.room_core.proofs.Lists.{each_set, within}
use Rattle.room_core.proofs.Invariant.{phase, is_keeper, Fits, Inv}
use Rattle.room_core.proofs.Rows.{fits_at, inside_open}
use Rattle.room_core.proofs.Bypass.{others_none}
use Rattle.room_core.proofs.Keys.{code_of_pack, is_false}
use Rattle.room_core.proofs.Marks.{MarkedAt}
use Rattle.room_core.proofs.Told.{Tie, moment}
use Rattle.room_core.proofs.Went.{Went, found, missed, won, counted_wait, opened, opened_in, left, left_last, exited, chose, ended, went_on, scanned, passed, rested, by_happens}
use Rattle.room_core.proofs.Late.{openings_onto}
use Rattle.room_core.proofs.Apart.{Good}

-- what a load of a wait or a grant gives
abbrev pub Tells : List Moment → Touch → Type 0
Tells h (Load (Wait k) value) = value ≡ draws k h
Tells h (Load (Grant k) value) = value ≡ last_to k (trace h)
Tells h _ = Unit {0}

tells_went : (c : ℕ) (s : Words) (ps : List Phase) (h : List Moment) (p : Phase) (act : Act) (row : Row)
    → Went c s p act row → MarkedAt s ps (trace h) → Tie s ps h → Tells h row.1.touch
tells_went c s ps h p act row (counted_wait room ticket first turn) k y = sym (y.drawn room)
tells_went c s ps h p act row (exited room turn) k y = sym (y.drawn _)
tells_went c s ps h p act row (scanned room turn k') k y = sym (y.drawn k')
tells_went c s ps h p act row (found room ticket first le) k y = sym (k.grants room)
tells_went c s ps h p act row (missed room ticket first le) k y = sym (k.grants room)
tells_went c s ps h p act row (chose room turn k' w lt) k y = sym (k.grants k')
tells_went c s ps h p act row (ended room turn w le) k y = sym (k.grants room)
tells_went c s ps h p act row (went_on room turn k' w le ne) k y = sym (k.grants k')
tells_went c s ps h p act row went k y = tt

-- a caller opens room q, to which a leaver passed on
abbrev PassedTo : ℕ → Phase → Type 0
PassedTo q (Counting room ticket first turn) = (room ≡ q) × (ticket ≡ 0)
PassedTo q (Admitting room ticket first turn to) = (room ≡ q) × (ticket ≡ 0)
PassedTo q _ = ⊥

opens : (p : Phase) (q : ℕ) → PassedTo q p → is_keeper p ≡ true
opens (Counting room ticket first turn) q k = refl
opens (Admitting room ticket first turn to) q k = refl
opens p q k = absurd k

-- a caller opens no room, or one that it enters
abbrev OpensAlone : Phase → Type 0
OpensAlone (Counting room ticket first turn) = 0 < ticket
OpensAlone (Admitting room ticket first turn to) = 0 < ticket
OpensAlone p = is_keeper p ≡ false

alone : (p : Phase) → is_keeper p ≡ false → OpensAlone p
alone (Counting room ticket first turn) e = absurd (cc)
alone (Admitting room ticket first turn to) e = absurd (cc)
alone p e = e

-- since a store of this active word no room has opened
abbrev Pending : ℕ → Words → List Phase → Type 0
Pending word s ps =
    ((q : ℕ) × (code_of word ≡ q + 1) × (d : ℕ) × PassedTo q (phase ps d))
    ⊎
    ((code_of word ≡ 0) × ((r : ℕ) → get_or s.done r 0 ≡ get_or s.grant r 0) ×
    ((d : ℕ) → OpensAlone (phase ps d)))

abbrev pub Awaits : Words → List Phase → List Moment → Type 0
Awaits s ps h =
    (later before : List Moment) (m : Moment) (word : ℕ) → h ≡ later ++ m ∷ before
    → m.event.touch ≡ Store Active word → openings (trace later) ≡ 0 → Pending word s ps

-- the store itself
stored_went : (c word : ℕ) (s : Words) (ps : List Phase) (t : List Item) (p : Phase) (act : Act) (row : Row)
    → Went c s p act row → Inv s ps t → c < length ps → phase ps c ≡ p
    → row.1.touch ≡ Store Active word → Pending word (touched s row.1.touch) (set ps c row.0)
stored_went c word s ps t p act row (passed turn k) i h e q =
    let f : Fits s (is_exiting t) (Passing turn (Some k)) =
    fits_at s ps t c (Passing turn (Some k)) i e in
    let small : k < length s.wait = within s.wait k (omega (arith, f.1)) in
    let same : pack (turn + 1) (k + 1) ≡ word = cc in
    inl (
      k,
      sym (ap code_of same) ∙ code_of_pack (turn + 1) (k + 1) (omega (arith, small, i.few)),
      c,
      subst (PassedTo k) (sym (get_or-set_same ps c (Counting k 0 None (turn + 1)) Out h))
          (refl, refl),
    )
stored_went c word s ps t p act row (rested turn) i h e q =
    let f : Fits s (is_exiting t) (Passing turn None) = fits_at s ps t c (Passing turn None) i e in
    let same : pack turn 0 ≡ word = cc in
    inr (
      sym (ap code_of same) ∙ code_of_pack turn 0 (omega arith),
      f.0.shut,
      each_set (λ _ z. OpensAlone z) ps c Out Out h refl
          (λ d ne.
          alone (phase ps d)
          (is_false (is_keeper (phase ps d))
          (others_none s ps t c (Passing turn None) i e refl d ne))),
    )
stored_went c word s ps t p act row went i h e q = absurd (cc)

-- a step after it at which no room opens
passed_own : (c q : ℕ) (s : Words) (p : Phase) (act : Act) (row : Row) → Went c s p act row
    → openings (onto row.1.two (onto row.1.one [])) ≡ 0 → PassedTo q p → PassedTo q row.0
passed_own c q s p act row (counted_wait room ticket first turn) none k = k
passed_own c q s p act row (opened room first turn to) none k = absurd (omega (arith, none))
passed_own c q s p act row (opened_in room ticket first turn to) none k =
    absurd (omega (arith, none))
passed_own c q s p act row went none k = absurd k

passed_on : (c q d : ℕ) (s : Words) (ps : List Phase) (p : Phase) (act : Act) (row : Row)
    → Went c s p act row → c < length ps → phase ps c ≡ p
    → openings (onto row.1.two (onto row.1.one [])) ≡ 0 → PassedTo q (phase ps d)
    → PassedTo q (phase (set ps c row.0) d)
passed_on c q d s ps p act row went h e none k = elim (cases_eq d c) [
  | inl own ↦ subst (λ z. PassedTo q (phase (set ps c row.0) z)) (sym own) (subst (PassedTo q) (sym (get_or-set_same ps c row.0 Out h)) (passed_own c q s p act row went none (subst (PassedTo q) e (subst (λ z. PassedTo q (phase ps z)) own k))))
  | inr other ↦ subst (PassedTo q) (sym (get_or-set_other ps c d row.0 Out other)) k
]

nobody_left : (c : ℕ) (s : Words) (ps : List Phase) (t : List Item) (room ticket : ℕ) (first : Option ℕ) (turn to : ℕ)
    → Inv s ps t → phase ps c ≡ Inside room ticket first turn to
    → ((r : ℕ) → get_or s.done r 0 ≡ get_or s.grant r 0) → ⊥
nobody_left c s ps t room ticket first turn to i e shut =
    omega (arith, inside_open s ps t c room ticket first turn to i e, shut room)

-- the same after an idle word: no keeper comes about but by a caller that seizes it
alone_own : (c : ℕ) (s : Words) (ps : List Phase) (t : List Item) (p : Phase) (act : Act) (row : Row)
    → Went c s p act row → Inv s ps t → phase ps c ≡ p
    → ((r : ℕ) → get_or s.done r 0 ≡ get_or s.grant r 0)
    → openings (onto row.1.two (onto row.1.one [])) ≡ 0
    → OpensAlone p
    → OpensAlone row.0 ×
    ((r : ℕ)
    → get_or (touched s row.1.touch).done r 0 ≡ get_or (touched s row.1.touch).grant r 0)
alone_own c s ps t p act row (won room ticket first) i e shut none k =
    let f : Fits s (is_exiting t) (Seizing room ticket first s.active) =
    fits_at s ps t c (Seizing room ticket first s.active) i e in
    (f.0.some, shut)
alone_own c s ps t p act row (counted_wait room ticket first turn) i e shut none k = (k, shut)
alone_own c s ps t p act row (opened room first turn to) i e shut none k =
    absurd (omega (arith, none))
alone_own c s ps t p act row (opened_in room ticket first turn to) i e shut none k =
    absurd (omega (arith, none))
alone_own c s ps t p act row (left room ticket first turn to short) i e shut none k =
    absurd (nobody_left c s ps t room ticket first turn to i e shut)
alone_own c s ps t p act row (left_last room ticket first turn to full) i e shut none k =
    absurd (nobody_left c s ps t room ticket first turn to i e shut)
alone_own c s ps t p act row (exited room turn) i e shut none k = absurd (cc)
alone_own c s ps t p act row (chose room turn k' w lt) i e shut none k = absurd (cc)
alone_own c s ps t p act row (ended room turn w le) i e shut none k = absurd (cc)
alone_own c s ps t p act row (went_on room turn k' w le ne) i e shut none k = absurd (cc)
alone_own c s ps t p act row (scanned room turn k') i e shut none k = absurd (cc)
alone_own c s ps t p act row (passed turn k') i e shut none k = absurd (cc)
alone_own c s ps t p act row (rested turn) i e shut none k = absurd (cc)
alone_own c s ps t p act row went i e shut none k = (refl, shut)

none_gained : (one two : Option Item) (t : List Item) → openings (onto two (onto one t)) ≡ 0
    → (openings t ≡ 0) × (openings (onto two (onto one [])) ≡ 0)
none_gained one two t e =
    let a =
    openings_onto two (onto one t) in let b = openings_onto one t in let d = openings_onto two
    (onto one []) in
    (omega (arith, e, a, b), omega (arith, e, a, b, d))

-- what an opening says of the store of the active word before it
abbrev Named_by : ℕ → ℕ → Option Item → Option Item → Type 0
Named_by word c (Some (Opened turn r from to)) two =
    (code_of word ≡ r + 1) ⊎ ((code_of word ≡ 0) × (two ≡ Some (Entered c r)))
Named_by word c one two = Unit {0}

abbrev Follows : List Moment → Moment → Type 0
Follows h o =
    (later before : List Moment) (m : Moment) (word : ℕ) → h ≡ later ++ m ∷ before
    → m.event.touch ≡ Store Active word → openings (trace later) ≡ 0
    → Named_by word o.caller o.event.one o.event.two

module _ (c : ℕ) (s : Words) (ps : List Phase) (h : List Moment) (p : Phase) (act : Act) (row : Row) (went : Went c s p act row) (i : Inv s ps (trace h)) (lt : c < length ps) (e : phase ps c ≡ p) where
  pending_went : (word : ℕ) → openings (onto row.1.two (onto row.1.one [])) ≡ 0 → Pending word s ps
      → Pending word (touched s row.1.touch) (set ps c row.0)
  pending_went word none (inl k) =
      inl (k.0, k.1, k.2, passed_on c k.0 k.2 s ps p act row went lt e none k.3)
  pending_went word none (inr k) =
      let own =
      alone_own c s ps (trace h) p act row went i e k.1 none (subst OpensAlone e (k.2 c)) in
      inr (k.0, own.1, each_set (λ _ z. OpensAlone z) ps c row.0 Out lt own.0 (λ d _. k.2 d))

  awaits_went : Awaits s ps h
      → Awaits (touched s row.1.touch) (set ps c row.0) (moment c act row ∷ h)
  awaits_went old [] before m word split stores none =
      let same : moment c act row ≡ m = cc in
      stored_went c word s ps (trace h) p act row went i lt e
      (ap (λ (x : Moment). x.event.touch) same ∙ stores)
  awaits_went old (x ∷ later) before m word split stores none =
      let same : x ≡ moment c act row = cc in
      let parts = none_gained x.event.one x.event.two (trace later) none in
      pending_went word
      (subst (λ (z : Moment). openings (onto z.event.two (onto z.event.one [])) ≡ 0) same parts.1)
      (old later before m word (cc) stores parts.0)

pub awaits_kept : (w : World) (c : ℕ) (act : Act) → Good w
    → Awaits w.state.words w.state.phases w.history
    → Awaits (happens w (c, act)).state.words (happens w (c, act)).state.phases (happens w (c, act)).history
awaits_kept w c act g old =
    by_happens w c act (λ v. Awaits v.state.words v.state.phases v.history) old
    (λ h row went.
    awaits_went c w.state.words w.state.phases w.history (phase w.state.phases c) act row went
    g.inv h refl old)

-- the opener was passed on to, or seized the idle word
named_went : (c word : ℕ) (s : Words) (ps : List Phase) (t : List Item) (p : Phase) (act : Act) (row : Row)
    → Went c s p act row → Inv s ps t → phase ps c ≡ p → Pending word s ps
    → Named_by word c row.1.one row.1.two
named_went c word s ps t p act row (opened room first turn to) i e (inl k) =
    let who : k.2 ≡ c = i.one k.2 c (opens (phase ps k.2) k.0 k.3) (ap is_keeper e) in
    let here : PassedTo k.0 (Admitting room 0 first turn to) =
    subst (PassedTo k.0) e (subst (λ z. PassedTo k.0 (phase ps z)) who k.3) in
    inl (omega (arith, k.1, here.0))
named_went c word s ps t p act row (opened room first turn to) i e (inr k) =
    absurd
    (let z : OpensAlone (Admitting room 0 first turn to) = subst OpensAlone e (k.2 c) in
    omega (arith, z))
named_went c word s ps t p act row (opened_in room ticket first turn to) i e (inl k) =
    let who : k.2 ≡ c = i.one k.2 c (opens (phase ps k.2) k.0 k.3) (ap is_keeper e) in
    let here : PassedTo k.0 (Admitting room (suc ticket) first turn to) =
    subst (PassedTo k.0) e (subst (λ z. PassedTo k.0 (phase ps z)) who k.3) in
    absurd (omega (arith, here.1))
named_went c word s ps t p act row (opened_in room ticket first turn to) i e (inr k) =
    inr (k.0, refl)
named_went c word s ps t p act row went i e k = tt

abbrev pub ChosenBack : List Moment → Type 0
ChosenBack [] = Unit {0}
ChosenBack (m ∷ h) = Tells h m.event.touch × Follows h m × ChosenBack h

pub chosen_kept : (w : World) (c : ℕ) (act : Act) → Good w
    → MarkedAt w.state.words w.state.phases (trace w.history)
    → Tie w.state.words w.state.phases w.history → Awaits w.state.words w.state.phases w.history
    → ChosenBack w.history → ChosenBack (happens w (c, act)).history
chosen_kept w c act g k y waits old = by_happens w c act (λ v. ChosenBack v.history) old (λ h row went. (
  tells_went c w.state.words w.state.phases w.history (phase w.state.phases c) act row went k y,
  (λ later before m word split stores none.
      named_went c word w.state.words w.state.phases (trace w.history) (phase w.state.phases c) act
      row went g.inv refl (waits later before m word split stores none)),
  old,
))

chosen_suffix : (s h : List Moment) → ChosenBack (s ++ h) → ChosenBack h
chosen_suffix [] h k = k
chosen_suffix (m ∷ s) h k = chosen_suffix s h k.2

module _ (h : List Moment) (k : ChosenBack h) where
  at : (before after : List Moment) (m : Moment) → reverse h ≡ before ++ m ∷ after
      → ChosenBack (m ∷ reverse before)
  at before after m e =
      chosen_suffix (reverse after) (m ∷ reverse before)
      (subst ChosenBack (split_back_at h before m after e) k)

  pub waits_in_order : (before after : List Moment) (m : Moment) (q w : ℕ)
      → reverse h ≡ before ++ m ∷ after → m.event.touch ≡ Load (Wait q) w → w ≡ drawn q before
  waits_in_order before after m q w e loads =
      let told : Tells (reverse before) (Load (Wait q) w) =
      subst (Tells (reverse before)) loads (at before after m e).0 in
      told ∙ draws-reverse q (reverse before) ∙ ap (drawn q) (reverse-reverse before)

  pub grants_in_order : (before after : List Moment) (m : Moment) (q g : ℕ)
      → reverse h ≡ before ++ m ∷ after → m.event.touch ≡ Load (Grant q) g
      → g ≡ granted (opened_in_order (trace_of before)) q
  grants_in_order before after m q g e loads =
      let told : Tells (reverse before) (Load (Grant q) g) =
      subst (Tells (reverse before)) loads (at before after m e).0 in
      told ∙ last_to-granted q (trace (reverse before))
      ∙ ap (λ z. granted z q)
      (all_opened-reverse (trace (reverse before))
      ∙ ap opened_in_order
      (ap reverse (trace-reverse before) ∙ reverse-reverse (trace_of before)))

  pub follows_in_order : (before between after : List Moment) (m o : Moment) (word turn room from to : ℕ)
      → reverse h ≡ before ++ m ∷ between ++ o ∷ after → m.event.touch ≡ Store Active word
      → opened_in_order (trace_of between) ≡ [] → o.event.one ≡ Some (Opened turn room from to)
      → (code_of word ≡ room + 1) ⊎
      ((code_of word ≡ 0) × (o.event.two ≡ Some (Entered o.caller room)))
  follows_in_order before between after m o word turn room from to e stores none opens' =
      let shape : reverse (before ++ m ∷ between) ≡ reverse between ++ m ∷ reverse before =
      split_back_at (reverse (before ++ m ∷ between)) before m between
      (reverse-reverse (before ++ m ∷ between)) in
      let quiet : openings (trace (reverse between)) ≡ 0 =
      sym (length_opened (trace (reverse between)))
      ∙ ap length
      (all_opened-reverse (trace (reverse between))
      ∙ ap opened_in_order
      (ap reverse (trace-reverse between) ∙ reverse-reverse (trace_of between))
      ∙ none) in
      subst (λ z. Named_by word o.caller z o.event.two) opens'
      ((at (before ++ m ∷ between) after o e).1 (reverse between) (reverse before) m word shape
      stores quiet)
