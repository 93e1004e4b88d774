-- A leaver's look at the rooms, from the end of its exit code on.
use Rattle.std.proofs.Common.{◌≡◌, ◌≢◌, ℕ, ◌+◌, ◌%◌, ◌<◌, List, [], ◌∷◌, ◌++◌, length, get_or, set, reverse, map, Some, None, refl, sym, ap, ◌∙◌, subst, inl, inr, ◌⊎◌, arith, eqb}
use Rattle.std.specs.Prelude.{filter}
use Rattle.std.proofs.lemmas.List.{append-nil, append_assoc, map-append, get_or-set_same, get_or-set_other, reverse-reverse}
use Rattle.std.proofs.lemmas.List.Elements.{filter-append}
use Rattle.std.proofs.lemmas.Bool.{cond-true, cond-false, eq-eqb, ne_eqb, cases_eq}
use Rattle.room_core.specs.declared.acts.Act.{Act}
use Rattle.room_core.specs.declared.phases.Phase.{Phase}
use Rattle.room_core.specs.declared.phases.Phase.TheVariants.{Out, Peering, Scanning, Passing}
use Rattle.room_core.specs.declared.words.Touch.{Touch}
use Rattle.room_core.specs.declared.words.Touch.TheVariants.{Load}
use Rattle.room_core.specs.declared.words.Word.TheVariants.{Wait}
use Rattle.room_core.specs.declared.items.Item.{Item}
use Rattle.room_core.specs.declared.items.Item.TheVariants.{ExitEnded}
use Rattle.room_core.specs.Words.{Words}
use Rattle.room_core.specs.Machine.{Row, next_room}
use Rattle.room_core.specs.Runs.{Moment, World, happens}
use Rattle.room_core.specs.Choice.{steps_of, StoresNext, Scan, ends, ends_between, goes_on, passes_on, rests}
use Rattle.room_core.specs.Trace.{is_exiting, trace}
use Rattle.room_core.proofs.Lists.{within}
use Rattle.room_core.proofs.Invariant.{phase, Fits, Inv}
use Rattle.room_core.proofs.Rows.{fits_at}
use Rattle.room_core.proofs.Keys.{code_of_pack}
use Rattle.room_core.proofs.Order.{reverse-cons, split_back_at}
use Rattle.room_core.proofs.Told.{moment}
use Rattle.room_core.proofs.Went.{Went, exited, chose, ended, went_on, scanned, passed, rested, by_happens}
use Rattle.room_core.proofs.Apart.{Good}

-- the steps of a caller, one more
steps_of-push : (c : ℕ) (ms : List Moment) (m : Moment)
    → steps_of c (ms ++ m ∷ []) ≡ steps_of c ms ++ steps_of c (m ∷ [])
steps_of-push c ms m =
    ap (map (λ (x : Moment). x.event.touch))
    (filter-append (λ (x : Moment). eqb x.caller c) ms (m ∷ []))
    ∙ map-append (λ (x : Moment). x.event.touch) (filter (λ (x : Moment). eqb x.caller c) ms)
    (filter (λ (x : Moment). eqb x.caller c) (m ∷ []))

steps_of-own : (c : ℕ) (m : Moment) → m.caller ≡ c → steps_of c (m ∷ []) ≡ m.event.touch ∷ []
steps_of-own c m e =
    ap (map (λ (x : Moment). x.event.touch))
    (cond-true (eqb m.caller c) (m ∷ []) [] (eq-eqb m.caller c e))

steps_of-other : (c : ℕ) (m : Moment) → m.caller ≢ c → steps_of c (m ∷ []) ≡ []
steps_of-other c m ne =
    ap (map (λ (x : Moment). x.event.touch))
    (cond-false (eqb m.caller c) (m ∷ []) [] (ne_eqb m.caller c ne))

-- the phases of a scan after the exit code of room r, and what each says of the steps to come
abbrev Scanner : ℕ → Phase → Type 0
Scanner r (Peering room turn k w) = room ≡ r
Scanner r (Scanning room turn k) = room ≡ r
Scanner r (Passing turn next) = Unit {0}
Scanner r _ = ⊥

abbrev Next : ℕ → ℕ → Phase → List Touch → Type 0
Next rooms r (Peering room turn k w) later = Scan rooms r k (Load (Wait k) w ∷ later)
Next rooms r (Scanning room turn k) later = Scan rooms r k later
Next rooms r (Passing turn None) later = StoresNext 0 later
Next rooms r (Passing turn (Some k)) later = StoresNext (k + 1) later
Next rooms r _ later = Unit {0}

-- the steps so far are those of a scan that goes on, or of one that is done
abbrev Scanned : ℕ → ℕ → List Touch → Phase → Type 0
Scanned rooms r steps p =
    (Scanner r p ×
    ((later : List Touch) → Next rooms r p later
    → Scan rooms r ((r + 1) % rooms) (steps ++ later)))
    ⊎ ((later : List Touch) → Scan rooms r ((r + 1) % rooms) (steps ++ later))

no_more : (rooms r : ℕ) (p : Phase) → Scanner r p → Next rooms r p []
no_more rooms r (Peering room turn k w) g = ends_between k w
no_more rooms r (Scanning room turn k) g = ends k
no_more rooms r (Passing turn None) g = tt
no_more rooms r (Passing turn (Some k)) g = tt
no_more rooms r p g = absurd g

scan_so_far : (rooms r : ℕ) (steps : List Touch) (p : Phase) → Scanned rooms r steps p
    → Scan rooms r ((r + 1) % rooms) steps
scan_so_far rooms r steps p (inl x) =
    subst (Scan rooms r ((r + 1) % rooms)) (append-nil steps) (x.1 [] (no_more rooms r p x.0))
scan_so_far rooms r steps p (inr x) =
    subst (Scan rooms r ((r + 1) % rooms)) (append-nil steps) (x [])

-- one step more of the leaver
next_went : (rooms r c : ℕ) (s : Words) (ps : List Phase) (t : List Item) (p : Phase) (act : Act) (row : Row)
    → Went c s p act row → Inv s ps t → phase ps c ≡ p → length s.wait ≡ rooms → Scanner r p
    → (Scanner r row.0 ×
    ((later : List Touch) → Next rooms r row.0 later → Next rooms r p (row.1.touch ∷ later))) ⊎
    ((later : List Touch) → Next rooms r p (row.1.touch ∷ later))
next_went rooms r c s ps t p act row (chose room turn k w lt) i e size g =
    inl (tt, λ later n. passes_on k w (get_or s.grant k 0) later lt n)
next_went rooms r c s ps t p act row (ended room turn w le) i e size g =
    inl (tt, λ later n. rests room w (get_or s.grant room 0) later le g n)
next_went rooms r c s ps t p act row (went_on room turn k w le ne) i e size g =
    inl (
      g,
      λ later n.
          goes_on k w (get_or s.grant k 0) later le (λ q. ne (q ∙ sym g))
          (subst (λ z. Scan rooms r ((k + 1) % z) later) size n),
    )
next_went rooms r c s ps t p act row (scanned room turn k) i e size g = inl (g, λ later n. n)
next_went rooms r c s ps t p act row (passed turn k) i e size g =
    let f : Fits s (is_exiting t) (Passing turn (Some k)) =
    fits_at s ps t c (Passing turn (Some k)) i e in
    let small : k < length s.wait = within s.wait k (omega (arith, f.1)) in
    inr (λ later. code_of_pack (turn + 1) (k + 1) (omega (arith, small, i.few)))
next_went rooms r c s ps t p act row (rested turn) i e size g =
    inr (λ later. code_of_pack turn 0 (omega arith))
next_went rooms r c s ps t p act row went i e size g = absurd g

-- the end of exit code, which is the first step of the scan
first_went : (rooms r c : ℕ) (s : Words) (p : Phase) (act : Act) (row : Row) → Went c s p act row
    → length s.wait ≡ rooms → row.1.one ≡ Some (ExitEnded r)
    → Scanned rooms r (row.1.touch ∷ []) row.0
first_went rooms r c s p act row (exited room turn) size e =
    let same : room ≡ r = cc in
    inl (
      same,
      λ later n.
          subst
          (λ z.
          Scan rooms r z
          (Load (Wait (next_room s room)) (get_or s.wait (next_room s room) 0) ∷ later))
          (ap (λ z. (room + 1) % z) size ∙ ap (λ z. (z + 1) % rooms) same) n,
    )
first_went rooms r c s p act row went size e = absurd (cc)

abbrev pub Scans : ℕ → List Moment → List Phase → Type 0
Scans rooms h ps =
    (later before : List Moment) (m : Moment) (r : ℕ) → h ≡ later ++ m ∷ before
    → m.event.one ≡ Some (ExitEnded r)
    → Scanned rooms r (steps_of m.caller (m ∷ reverse later)) (phase ps m.caller)

module _ (rooms c : ℕ) (s : Words) (ps : List Phase) (h : List Moment) (p : Phase) (act : Act) (row : Row) (went : Went c s p act row) (i : Inv s ps (trace h)) (lt : c < length ps) (e : phase ps c ≡ p) (size : length s.wait ≡ rooms) where
  now : Moment
  now = moment c act row

  scan_first : (m : Moment) (r : ℕ) → moment c act row ≡ m → m.event.one ≡ Some (ExitEnded r)
      → Scanned rooms r (steps_of m.caller (m ∷ [])) (phase (set ps c row.0) m.caller)
  scan_first m r same exit =
      let F : Moment → Type 0 =
      λ x. Scanned rooms r (steps_of x.caller (x ∷ [])) (phase (set ps c row.0) x.caller) in
      let one : row.1.one ≡ Some (ExitEnded r) = ap (λ (x : Moment). x.event.one) same ∙ exit in
      subst F same
      (subst (λ z. Scanned rooms r z (phase (set ps c row.0) c))
      (sym (steps_of-own c (moment c act row) refl))
      (subst (Scanned rooms r (row.1.touch ∷ [])) (sym (get_or-set_same ps c row.0 Out lt))
      (first_went rooms r c s p act row went size one)))

  scan_more : (later : List Moment) (m x : Moment) (r : ℕ) → moment c act row ≡ x
      → Scanned rooms r (steps_of m.caller (m ∷ reverse later)) (phase ps m.caller)
      → Scanned rooms r (steps_of m.caller (m ∷ reverse (x ∷ later))) (phase (set ps c row.0) m.caller)
  scan_more later m x r same old =
      let steps : List Touch = steps_of m.caller (m ∷ reverse later) in
      let grown : steps_of m.caller (m ∷ reverse (x ∷ later)) ≡ steps ++ steps_of m.caller (x ∷ []) =
      ap (λ z. steps_of m.caller (m ∷ z)) (reverse-cons x later)
      ∙ steps_of-push m.caller (m ∷ reverse later) x in
      let who : c ≡ x.caller = ap (λ (z : Moment). z.caller) same in
      let touch : row.1.touch ≡ x.event.touch = ap (λ (z : Moment). z.event.touch) same in
      elim (cases_eq c m.caller) [
        | inl own ↦ (let one : steps_of m.caller (m ∷ reverse (x ∷ later)) ≡ steps ++ row.1.touch ∷ [] = grown ∙ ap (λ z. steps ++ z) (steps_of-own m.caller x (sym who ∙ own) ∙ ap (λ z. z ∷ []) (sym touch)) in
            let join : (more : List Touch)
            → (steps ++ row.1.touch ∷ []) ++ more ≡ steps ++ row.1.touch ∷ more =
            λ more. append_assoc steps (row.1.touch ∷ []) more in
            let next : phase (set ps c row.0) m.caller ≡ row.0 =
            subst (λ z. phase (set ps c row.0) z ≡ row.0) own
            (get_or-set_same ps c row.0 Out lt) in
            let before : phase ps m.caller ≡ p = subst (λ z. phase ps z ≡ p) own e in
            subst (λ z. Scanned rooms r z (phase (set ps c row.0) m.caller)) (sym one) (subst (Scanned rooms r (steps ++ row.1.touch ∷ [])) (sym next)
            (elim (subst (Scanned rooms r steps) before old) [
              | inl open_ ↦ elim (next_went rooms r c s ps (trace h) p act row went i e size open_.0) [
                | inl on ↦ inl (on.0, λ more n. subst (Scan rooms r ((r + 1) % rooms)) (sym (join more)) (open_.1 (row.1.touch ∷ more) (on.1 more n)))
                | inr done ↦ inr (λ more. subst (Scan rooms r ((r + 1) % rooms)) (sym (join more)) (open_.1 (row.1.touch ∷ more) (done more)))
              ]
              | inr closed ↦ inr (λ more. subst (Scan rooms r ((r + 1) % rooms)) (sym (join more)) (closed (row.1.touch ∷ more)))
            ])))
        | inr other ↦ (let none : steps_of m.caller (m ∷ reverse (x ∷ later)) ≡ steps = grown ∙ ap (λ z. steps ++ z) (steps_of-other m.caller x (λ q. other (who ∙ q))) ∙ append-nil steps in
            subst (λ z. Scanned rooms r z (phase (set ps c row.0) m.caller)) (sym none) (subst (Scanned rooms r steps) (sym (get_or-set_other ps c m.caller row.0 Out (λ q. other (sym q)))) old))
      ]

  scans_went : Scans rooms h ps → Scans rooms (moment c act row ∷ h) (set ps c row.0)
  scans_went old [] before m r split exit = scan_first m r (cc) exit
  scans_went old (x ∷ later) before m r split exit =
      scan_more later m x r (cc) (old later before m r (cc) exit)

pub scans_kept : (rooms : ℕ) (w : World) (c : ℕ) (act : Act) → Good w
    → length w.state.words.wait ≡ rooms → Scans rooms w.history w.state.phases
    → Scans rooms (happens w (c, act)).history (happens w (c, act)).state.phases
scans_kept rooms w c act g size old =
    by_happens w c act (λ v. Scans rooms v.history v.state.phases) old
    (λ h row went.
    scans_went rooms c w.state.words w.state.phases w.history (phase w.state.phases c) act row
    went g.inv h refl size old)

pub scans_in_order : (rooms : ℕ) (h : List Moment) (ps : List Phase) → Scans rooms h ps
    → (before after : List Moment) (m : Moment) (r : ℕ) → reverse h ≡ before ++ m ∷ after
    → m.event.one ≡ Some (ExitEnded r)
    → Scan rooms r ((r + 1) % rooms) (steps_of m.caller (m ∷ after))
scans_in_order rooms h ps k before after m r split exit =
    subst (λ z. Scan rooms r ((r + 1) % rooms) (steps_of m.caller (m ∷ z))) (reverse-reverse after)
    (scan_so_far rooms r (steps_of m.caller (m ∷ reverse (reverse after))) (phase ps m.caller)
    (k (reverse after) (reverse before) m r (split_back_at h before m after split) exit))
