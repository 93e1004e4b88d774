-- One act more of a schedule.
use Rattle.std.proofs.Common.{◌≡◌, ℕ, ◌+◌, ◌<◌, List, ◌∷◌, ◌++◌, length, get_or, take, reverse, option_to_list, Result, Ok, Err, refl, sym, ap, ◌∙◌, subst, inl, inr, arith}
use Rattle.std.proofs.lemmas.List.{append_assoc, take_more}
use Rattle.std.proofs.lemmas.Bool.{cases_lt}
use Rattle.room_core.specs.declared.acts.Act.{Act}
use Rattle.room_core.specs.declared.acts.Act.TheVariants.{Draw}
use Rattle.room_core.specs.declared.acts.Refused.{Refused}
use Rattle.room_core.specs.declared.items.Event.{Event}
use Rattle.room_core.specs.declared.items.Item.{Item}
use Rattle.room_core.specs.Machine.{State, Row, row_of, after}
use Rattle.room_core.specs.Runs.{Moment, World, carried, happens, run, start}
use Rattle.room_core.specs.Core.{event_of, state_after}
use Rattle.room_core.specs.Order.{moments, trace_of}
use Rattle.room_core.specs.Schedule.{RefusesAct, AcceptsFirst}
use Rattle.room_core.proofs.Order.{reverse-cons, trace_of-push}
use Rattle.room_core.proofs.Reached.{run_push}
use Rattle.room_core.proofs.Told.{moment}

-- a run of one act more
run_more : (acts : List (ℕ × Act)) (w : World) (i : ℕ) (d : ℕ × Act) → i < length acts
    → run (take (i + 1) acts) w ≡ happens (run (take i acts) w) (get_or acts i d)
run_more acts w i d h =
    ap (λ xs. run xs w) (take_more acts i d h) ∙ run_push (take i acts) (get_or acts i d) w

-- an event more
event_more : (items : List Item) (h : List Moment) (m : Moment) → items ≡ trace_of (reverse h)
    → (items ++ option_to_list m.event.one) ++ option_to_list m.event.two ≡ trace_of (reverse (m ∷ h))
event_more items h m e =
    ap (λ xs. (xs ++ option_to_list m.event.one) ++ option_to_list m.event.two) e
    ∙ append_assoc (trace_of (reverse h)) (option_to_list m.event.one) (option_to_list m.event.two)
    ∙ sym (trace_of-push (reverse h) m) ∙ ap trace_of (sym (reverse-cons m h))

-- after an act that was accepted
accepted : (w : World) (s : State) (items : List Item) (c : ℕ) (act : Act) (event : Event) (r : Result Row Refused)
    → s ≡ w.state → items ≡ trace_of (reverse w.history) → r ≡ row_of s c act
    → Ok event ≡ event_of r
    → (state_after s c act r ≡ (happens w (c, act)).state) ×
    ((items ++ option_to_list event.one) ++ option_to_list event.two ≡ trace_of
    (reverse (happens w (c, act)).history))
accepted w s items c act event (Err why) es ei er ev = absurd (cc)
accepted w s items c act event (Ok row) es ei er ev =
    let same : event ≡ row.1 = cc in
    let now : happens w (c, act) ≡ carried w c act (Ok row) = ap (carried w c act) (sym (er ∙ ap (λ x. row_of x c act) es)) in (
      ap (λ x. after x c act row) es ∙ ap (λ x. x.state) (sym now),
      ap (λ x. (items ++ option_to_list x.one) ++ option_to_list x.two) same
          ∙ event_more items w.history (moment c act row) ei
          ∙ ap (λ x. trace_of (reverse x.history)) (sym now),
    )

module _ (rooms callers : ℕ) (acts : List (ℕ × Act)) (i : ℕ) (lt : i < length acts) where
  abbrev act : ℕ × Act
  act = get_or acts i (0, Draw 0)

  -- the state and the trace after one act more
  pub one_more : (s : State) (items : List Item) (event : Event)
      → s ≡ (run (take i acts) (start rooms callers)).state
      → items ≡ trace_of (moments rooms callers (take i acts))
      → Ok event ≡ event_of (row_of s act.0 act.1)
      → (state_after s act.0 act.1 (row_of s act.0 act.1) ≡
      (run (take (i + 1) acts) (start rooms callers)).state) ×
      ((items ++ option_to_list event.one) ++ option_to_list event.two ≡ trace_of
      (moments rooms callers (take (i + 1) acts)))
  one_more s items event es ei ev =
      let w : World = run (take i acts) (start rooms callers) in
      let more : run (take (i + 1) acts) (start rooms callers) ≡ happens w act =
      run_more acts (start rooms callers) i (0, Draw 0) lt in
      let next = accepted w s items act.0 act.1 event (row_of s act.0 act.1) es ei refl ev in (
        next.0 ∙ ap (λ x. x.state) (sym more),
        next.1 ∙ ap (λ x. trace_of (reverse x.history)) (sym more),
      )

  -- an act that was accepted, after those that were
  pub accepts_more : AcceptsFirst rooms callers acts i
      → ((why : Refused) → RefusesAct rooms callers acts i why → ⊥)
      → AcceptsFirst rooms callers acts (i + 1)
  accepts_more before here k why below refuses = elim (cases_lt k i) [
    | inl earlier ↦ before k why earlier refuses
    | inr late ↦ (let same : k ≡ i = omega (arith, below, late) in here why (subst (λ z. RefusesAct rooms callers acts z why) same refuses))
  ]
