-- Nobody is passed for longer than a round, told of the moments.
use Rattle.std.proofs.Common.{◌≡◌, ℕ, suc, ◌<◌, ◌≤◌, List, [], ◌∷◌, get_or, Option, Some, refl, sym, ap, ◌∙◌, subst, inl, inr, arith, eqb}
use Rattle.std.proofs.lemmas.Bool.{cases_lt, cond-true, cond-false, eq-eqb, ne_eqb}
use Rattle.room_core.specs.declared.acts.Act.{Act}
use Rattle.room_core.specs.declared.phases.Phase.{Phase}
use Rattle.room_core.specs.declared.phases.Phase.TheVariants.{Out, Glancing, Admitting, Turning, Inside}
use Rattle.room_core.specs.declared.items.Item.{Item}
use Rattle.room_core.specs.declared.acts.Act.TheVariants.{Step, Leave}
use Rattle.room_core.specs.declared.words.Touch.TheVariants.{Load}
use Rattle.room_core.specs.declared.words.Word.TheVariants.{Active}
use Rattle.room_core.specs.declared.items.Item.TheVariants.{Opened}
use Rattle.room_core.specs.Words.{Words, touched}
use Rattle.room_core.specs.Machine.{Row}
use Rattle.room_core.specs.Active.{turn_of, code_of}
use Rattle.room_core.specs.Trace.{is_exiting, trace}
use Rattle.room_core.specs.Runs.{Moment, World, happens, run, start}
use Rattle.room_core.proofs.Lists.{each_set, within}
use Rattle.room_core.proofs.Invariant.{ticket_of, room_of, is_keeper, phase, Fits, Inv}
use Rattle.room_core.proofs.Rows.{admitted_open, fits_at}
use Rattle.room_core.proofs.Went.{Went, drawn, found, missed, saw_idle, saw_busy, won, lost, counted_wait, opened, opened_in, entered, left, left_last, exited, chose, ended, went_on, scanned, passed, rested, by_happens}
use Rattle.room_core.proofs.Due.{BoundBy, Due}
use Rattle.room_core.proofs.Backward.{Prompt, SeesItsTurn, UsesUp, OnlyLooks, PromptBack, draw_by, last_draw, last_to}
use Rattle.room_core.proofs.Told.{Told, Tie, moment}
use Rattle.room_core.proofs.Marks.{MarkedAt}
use Rattle.room_core.proofs.Apart.{Good, happens_kept, start_good}
use Rattle.room_core.proofs.Whole.{More, more_kept, start_more}

abbrev pub GoneAt : List ℕ → Option (ℕ × ℕ) → Phase → Type 0
GoneAt grant last p = (r t : ℕ) → last ≡ Some (r, t) → ticket_of p ≡ 0 → t ≤ get_or grant r 0

some_is : (a b : ℕ × ℕ) → Some a ≡ Some b → a ≡ b
some_is a b e = cc

grants_grow : (c : ℕ) (s : Words) (ps : List Phase) (tr : List Item) (p : Phase) (act : Act) (row : Row)
    → Went c s p act row → Inv s ps tr → phase ps c ≡ p → (r : ℕ)
    → get_or s.grant r 0 ≤ get_or (touched s row.1.touch).grant r 0
grants_grow c s ps tr p act row (opened room first turn to) i e =
    let f : Fits s (is_exiting tr) (Admitting room 0 first turn to) =
    fits_at s ps tr c (Admitting room 0 first turn to) i e in
    each_set (λ k v. get_or s.grant k 0 ≤ v) s.grant room to 0
    (omega (arith, within s.wait room (omega (arith, f.0.more)), i.grants)) (omega (arith, f.1))
    (λ k _. omega arith)
grants_grow c s ps tr p act row (opened_in room ticket first turn to) i e =
    let f : Fits s (is_exiting tr) (Admitting room (suc ticket) first turn to) =
    fits_at s ps tr c (Admitting room (suc ticket) first turn to) i e in
    each_set (λ k v. get_or s.grant k 0 ≤ v) s.grant room to 0
    (omega (arith, within s.wait room (omega (arith, f.0.more)), i.grants)) (omega (arith, f.1))
    (λ k _. omega arith)
grants_grow c s ps tr p act row went i e = λ r. omega arith

same_draw : (c : ℕ) (act : Act) (row : Row) (h : List Moment) (r t : ℕ)
    → draw_by act h (last_draw c h) ≡ last_draw c h
    → last_draw c (moment c act row ∷ h) ≡ Some (r, t) → last_draw c h ≡ Some (r, t)
same_draw c act row h r t e q =
    sym e
    ∙ sym (cond-true (eqb c c) (draw_by act h (last_draw c h)) (last_draw c h) (eq-eqb c c refl))
    ∙ q

-- who is inside was let in by its last draw
gone_inside : (c : ℕ) (s : Words) (ps : List Phase) (tr : List Item) (h : List Moment) (room ticket : ℕ) (first : Option ℕ) (turn to : ℕ)
    → Inv s ps tr → phase ps c ≡ Inside room ticket first turn to → Told h c (Inside room ticket first turn to)
    → (r t : ℕ) → last_draw c h ≡ Some (r, t) → t ≤ get_or s.grant r 0
gone_inside c s ps tr h room ticket first turn to i e y r t drew =
    let f : Fits s (is_exiting tr) (Inside room ticket first turn to) =
    fits_at s ps tr c (Inside room ticket first turn to) i e in
    let q : ◌≡◌ {A = Option (ℕ × ℕ)} (Some (room, ticket)) (Some (r, t)) =
    sym (y.ticket f.0.some) ∙ drew in
    let er : room ≡ r = ap (λ x. x.0) (some_is (room, ticket) (r, t) q) in
    let et : ticket ≡ t = ap (λ x. x.1) (some_is (room, ticket) (r, t) q) in
    subst (λ x. t ≤ get_or s.grant x 0) er (omega (arith, et, f.0.granted))

gone_mine : (c : ℕ) (s : Words) (ps : List Phase) (tr : List Item) (h : List Moment) (p : Phase) (act : Act) (row : Row)
    → Went c s p act row → Inv s ps tr → phase ps c ≡ p → Told h c p
    → GoneAt s.grant (last_draw c h) p
    → GoneAt (touched s row.1.touch).grant (last_draw c (moment c act row ∷ h)) row.0
gone_mine c s ps tr h p act row (drawn q hr) i e y d r t eq z = absurd (omega (arith, z))
gone_mine c s ps tr h p act row (opened room first turn to) i e y d r t eq z =
    omega (
      arith,
      d r t (same_draw c Step row h r t refl eq) refl,
      grants_grow c s ps tr (Admitting room 0 first turn to) Step _ (opened room first turn to) i e
          r,
    )
gone_mine c s ps tr h p act row (opened_in room ticket first turn to) i e y d r t eq z =
    absurd (omega (arith, z))
gone_mine c s ps tr h p act row (left room ticket first turn to short) i e y d r t eq z =
    gone_inside c s ps tr h room ticket first turn to i e y r t (same_draw c Leave row h r t refl eq)
gone_mine c s ps tr h p act row (left_last room ticket first turn to full) i e y d r t eq z =
    gone_inside c s ps tr h room ticket first turn to i e y r t (same_draw c Leave row h r t refl eq)
gone_mine c s ps tr h p act row went i e y d r t eq z = d r t (same_draw c Step row h r t refl eq) z

module _ (rooms c : ℕ) (s : Words) (ps : List Phase) (h : List Moment) (i : Inv s ps (trace h)) (y : Tie s ps h) (k : MarkedAt s ps (trace h)) (u : Due rooms s ps) (g : (d : ℕ) → GoneAt s.grant (last_draw d h) (phase ps d)) where
  opened_prompt : (room ticket : ℕ) (first : Option ℕ) (turn to : ℕ)
      → phase ps c ≡ Admitting room ticket first turn to
      → Prompt rooms h (Some (Opened turn room (get_or s.grant room 0) to))
  opened_prompt room ticket first turn to e d t f el low high ef =
      let a : Fits s (is_exiting (trace h)) (Admitting room ticket first turn to) =
      fits_at s ps (trace h) c (Admitting room ticket first turn to) i e in
      let pos : 0 < ticket_of (phase ps d) =
      elim (cases_lt 0 (ticket_of (phase ps d)))
      [ inl l ↦ l | inr z ↦ absurd (omega (arith, low, g d room t el (omega (arith, z)))) ] in
      let q =
      some_is (room_of (phase ps d), ticket_of (phase ps d)) (room, t)
      (sym ((y.each d).ticket pos) ∙ el) in
      let er : room_of (phase ps d) ≡ room =
      ap (λ x. x.0) q in let et : ticket_of (phase ps d) ≡ t = ap (λ x. x.1) q in
      let b = u.each d f (sym ((y.each d).first pos) ∙ ef) pos in
      let key : u.key ≡ Admitting room ticket first turn to =
      sym (u.key_is c (ap is_keeper e)) ∙ e in
      let late_now : get_or s.grant (room_of (phase ps d)) 0 < ticket_of (phase ps d) =
      rw er (omega (arith, low, et)) in
      let x =
      subst
      (BoundBy rooms (turn_of s.active) (code_of s.active) (room_of (phase ps d))
      (ticket_of (phase ps d)) f) key (b.busy a.0.keeps.busy late_now) in
      (omega (arith, b.seen_before, a.0.keeps.turn_is), omega (arith, x.0, a.0.keeps.turn_is))

  -- a caller that holds a ticket sees its turn
  sees : 0 < ticket_of (phase ps c) → SeesItsTurn c h (Load Active s.active)
  sees pos r t el le =
      let q =
      some_is (room_of (phase ps c), ticket_of (phase ps c)) (r, t)
      (sym ((y.each c).ticket pos) ∙ el) in
      let e0 : room_of (phase ps c) ≡ r =
      ap (λ x. x.0) q in let e1 : ticket_of (phase ps c) ≡ t = ap (λ x. x.1) q in
      let low : ticket_of (phase ps c) ≤ get_or s.grant (room_of (phase ps c)) 0 =
      omega (
        arith,
        k.grants (room_of (phase ps c)),
        ap (λ (z : ℕ). last_to z (trace h)) e0,
        le,
        e1,
      ) in
      let now = k.open_now (room_of (phase ps c)) (admitted_open s ps (trace h) c i pos low) in
      let o = now.here.opening in (
        o,
        now.here.last_is,
        record {
          of_room = now.here.room_is ∙ e0;
          above = omega (arith, k.tickets c o pos now.here.last_is now.here.room_is, e1);
          up_to = omega (arith, now.to_is, low, e1);
        },
        sym now.turn_is,
      )

  prompt_went : (p : Phase) (act : Act) (row : Row) → Went c s p act row → phase ps c ≡ p
      → Prompt rooms h row.1.one × SeesItsTurn c h row.1.touch × UsesUp c h act × OnlyLooks act row.1.one row.1.touch
  prompt_went p act row (opened room first turn to) e =
      (opened_prompt room 0 first turn to e, tt, tt, tt)
  prompt_went p act row (opened_in room ticket first turn to) e =
      (opened_prompt room (suc ticket) first turn to e, tt, tt, tt)
  prompt_went p act row (saw_idle room ticket first z) e =
      let f = fits_at s ps (trace h) c (Glancing room ticket first) i e in
      (tt, sees (rw e f.some), tt, refl)
  prompt_went p act row (saw_busy room ticket first) e =
      let f = fits_at s ps (trace h) c (Glancing room ticket first) i e in
      (tt, sees (rw e f.some), tt, refl)
  prompt_went p act row (entered room ticket first to) e =
      let f = fits_at s ps (trace h) c (Turning room ticket first to) i e in
      (tt, sees (rw e f.some), tt, refl)
  prompt_went p act row (drawn q hr) e =
      (tt, tt, (λ r t el. omega (arith, g c r t el (ap ticket_of e), k.grants r)), tt)
  prompt_went p act row went e = (tt, tt, tt, tt)

pub record Prompts (rooms : ℕ) (w : World) : Type 0 where
  pub gone : (d : ℕ) → GoneAt w.state.words.grant (last_draw d w.history) (phase w.state.phases d)
  pub prompt : PromptBack rooms w.history

prompts_kept : (rooms : ℕ) (w : World) (c : ℕ) (act : Act) → Good w → More rooms w → Prompts rooms w
    → Prompts rooms (happens w (c, act))
prompts_kept rooms w c act g k x = by_happens w c act (Prompts rooms) x (λ h row went.
    let s = w.state.words in let ps = w.state.phases in
    record {
      gone =
          each_set
          (λ d q.
          GoneAt (touched s row.1.touch).grant (last_draw d (moment c act row ∷ w.history)) q) ps c
          row.0 Out h
          (gone_mine c s ps (trace w.history) w.history (phase ps c) act row went g.inv refl
          (k.tie.each c) (x.gone c))
          (λ d ne r t eq z. omega (
            arith,
            grants_grow c s ps (trace w.history) (phase ps c) act row went g.inv refl r,
            x.gone d r t
                (sym
                (cond-false (eqb c d) (draw_by act w.history (last_draw d w.history))
                (last_draw d w.history) (ne_eqb c d (λ q. ne (sym q))))
                ∙ eq) z,
          ));
      prompt =
          (let l =
          prompt_went rooms c s ps w.history g.inv k.tie k.marks k.due x.gone (phase ps c) act
          row went refl in
          (l.0, l.1, l.2, l.3, x.prompt));
    })

prompts_run : (rooms : ℕ) (acts : List (ℕ × Act)) (w : World) → Good w → More rooms w
    → Prompts rooms w → Prompts rooms (run acts w)
prompts_run rooms [] w g k x = x
prompts_run rooms (a ∷ acts) w g k x =
    prompts_run rooms acts (happens w a) (happens_kept w a.0 a.1 g) (more_kept rooms w a.0 a.1 g k)
    (prompts_kept rooms w a.0 a.1 g k x)

pub run_prompt : (rooms callers : ℕ) (acts : List (ℕ × Act)) → rooms ≤ 7
    → PromptBack rooms (run acts (start rooms callers)).history
run_prompt rooms callers acts few =
    (prompts_run rooms acts (start rooms callers) (start_good rooms callers few) (start_more rooms callers) (record { gone = λ d r t eq. absurd (cc); prompt = tt })).prompt
