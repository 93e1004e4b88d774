-- The steps of a caller that leaves: its departure, the end of the exit code, the scan, and passing on.
use Rattle.std.proofs.Common.{◌≡◌, ℕ, ◌+◌, ◌*◌, ◌%◌, ◌^◌, ◌<◌, ◌≤◌, Bool, true, false, cond, eqb, ltb, Option, Some, None, List, [], ◌∷◌, get_or, sym, refl, ap, ◌∙◌, subst, arith}
use Rattle.room_core.specs.declared.acts.Act.TheVariants.{Step, Leave}
use Rattle.room_core.specs.declared.items.Item.{Item}
use Rattle.room_core.specs.declared.items.Item.TheVariants.{Opened, Left, ExitBegun}
use Rattle.room_core.specs.declared.items.Opening.{Opening}
use Rattle.room_core.specs.declared.phases.Phase.{Phase}
use Rattle.room_core.specs.declared.phases.Phase.TheVariants.{Out, Inside, Exiting, Peering, Scanning, Passing, Admitting}
use Rattle.room_core.specs.Words.{HasWord, held}
use Rattle.room_core.specs.Moves.{Move, move, leaving_move, exiting_move, peering_move, scanning_move, passing_move, admitting_move}
use Rattle.room_core.specs.Machine.{made, phase_of}
use Rattle.room_core.specs.Active.{pack}
use Rattle.room_core.specs.Trace.{trace, onto}
use Rattle.room_core.specs.Trace.{all_opened, openings}
use Rattle.room_core.specs.Gate.{Held, gate, nobody, inside}
use Rattle.room_core.proofs.Listed.{IsApt}
use Rattle.room_core.proofs.Facts.{insider, inside_room, inside_left, leave_row, step_row, one_more, done_low, gate_held, gate_left, gate_keyed, gate_opened, empty_keyed, exiter, peerer, scanner, opener}
use Rattle.room_rule.specs.Use.{Meaning, StandsInside, RestsOn}
use Rattle.room_rule.specs.Laws.{Laws}
use Rattle.room_rule.specs.Openings.{StartsWith}
use Rattle.room_rule.specs.View.{moved}
use Rattle.room_rule.specs.Rule.{is_waiting, MayStillEnter}
use Rattle.room_rule.specs.Told.{Seated, stepped_by, left_by, IsEvent}
use Rattle.room_rule.specs.declared.rule.Plan.{Plan}
use Rattle.room_rule.specs.declared.views.Role.TheVariants.{Pass}
use Rattle.room_rule.specs.declared.views.Shown.{Shown}
use Rattle.room_rule.proofs.Lists.{starts_trans}
use Rattle.room_rule.proofs.Acts.{then_is, Table, Rule, Mine, is_one, sizes_of, Owes}
use Rattle.room_rule.proofs.Events.{no_key, neither_key, event, event_at, quiet_owes, tell, arrives_else}
use Rattle.room_rule.proofs.Entering.{phase_after}

by_bool : (b : Bool) (P : Bool → Type 0) → (b ≡ true → P true) → (b ≡ false → P false) → P b
by_bool true P t f = t refl
by_bool false P t f = f refl

inside_same : (a b c e a' b' c' e' : ℕ) (d d' : Option ℕ)
    → Inside a b d c e ≡ Inside a' b' d' c' e' → (a ≡ a') × (c ≡ c') × (e ≡ e')
inside_same a b c e a' b' c' e' d d' q = (cc, cc, cc)

not_waiting : false ≡ true → ⊥
not_waiting e = cc

neither_waits : (b : Bool) (p q : Phase) → (is_waiting p ≡ true → ⊥) → (is_waiting q ≡ true → ⊥)
    → is_waiting (cond b p q) ≡ true → ⊥
neither_waits true p q x y = x
neither_waits false p q x y = y

module _ {X S V : Type 0} (M : Meaning X S V) (m : ℕ) (k : Plan X) where
  -- the trace after a departure: the exit code begins where it is the last
  abbrev left_then : ℕ → ℕ → Bool → List Item → List Item
  left_then who room last t = onto (cond last (Some (ExitBegun room)) None) (Left who ∷ t)

  -- a departure
  pub leaves : Laws M
      → (slots id : ℕ) (me : Seated S V) (room ticket turn to : ℕ) (first : Option ℕ)
      (change : ℕ → ℕ) → me.0.role ≡ Pass → me.0.phase ≡ Inside room ticket first turn to
      → M.may_leave k.usage me.0.user
      → ((n : ℕ) → n + 1 < 2 ^ 64 → change n ≡ n + 1)
      → IsEvent M m k slots id me (1 + 2 * m + room) change (λ n me'. left_by me n me') Leave
  leaves laws slots id me room ticket turn to first change is at may same =
      let who : ℕ = me.0.who in let mv = leaving_move who room turn to in
      event M m k slots id me Leave mv change (λ n me'. left_by me n me') is (λ s r h.
      let w = r.world in let n : ℕ = get_or w.state.words.done room 0 in let t = trace w.history in
      let w' = then_is w who Leave mv in
      let L = M.lawful k.usage r.content in
      let t' : Bool → List Item = λ last. left_then who room last t in
      let here : phase_of w.state who ≡ Inside room ticket first turn to = h.phase ∙ at in
      let by =
      leave_row m k.callers r.few_rooms r.few_callers w r.reached who room ticket turn to first
      (is_one M m k s r id me.0 h) here in
      let u = insider m k.callers r.few_rooms r.few_callers w r.reached who room ticket turn to
      first here in let now = u.0.now in
      let low : n ≤ 2 ^ 54 = done_low m k.callers r.few_rooms r.few_callers w r.reached room in
      let fine : n + 1 < 2 ^ 64 = omega arith in
      let reached' = one_more m k.callers r.few_rooms r.few_callers w r.reached who Leave
      (made w.state.words mv) by in
      let stands : StandsInside M k.usage room turn (inside t) who me.0.user r.content =
      record {
        lawful = subst L (gate_held t room turn to now) r.lawful;
        sized = r.sized;
        slotted = r.slotted;
        view =
            h.user;
        inside = u.1;
      } in
      record {
        seen = me.0.seen;
        owes = record {
          by = by;
          has = (let z = (sizes_of M m k s r).done in
              let q = inside_room m k.callers r.few_rooms r.few_callers w r.reached who room ticket
              turn to first here in omega arith);
          apt = tt;
          starts = by_bool (eqb (n + 1) to) (λ b. StartsWith (all_opened (t' b)) me.0.seen)
              (λ _. h.seen) (λ _. h.seen);
          lawful = by_bool (eqb (n + 1) to) (λ b. L (gate (t' b)))
              (λ last. subst L (sym (gate_keyed t who room room turn to now))
              (laws.leaves_last k.usage r.content room turn (inside t) who me.0.user stands may
              (λ d. ap (λ (z : ℕ → Bool). z d) (sym (inside_left who t))
              ∙ ap (λ (b : Bool). inside (t' b) d) (sym last)
              ∙ empty_keyed m k.callers r.few_rooms r.few_callers w' reached' who room turn
              (phase_after M m k s r id me.0 Leave mv h
              ∙ ap (λ (b : Bool). cond b (Exiting room turn) Out) last) d)))
              (λ _. subst L (sym (gate_left t who room turn to now))
              (laws.leaves k.usage r.content room turn (inside t) who me.0.user stands may));
          waits = by_bool (eqb (n + 1) to)
              (λ b. is_waiting (cond b (Exiting room turn) Out) ≡ true
              → MayStillEnter M k.usage w' who me.0.user)
              (λ _ e. absurd (cc)) (λ _ e. absurd (cc));
        };
        same = same n fine;
        kept = r.content.words;
        shows = λ _ _ _. record { long = r.sized; same = λ _ _ _. refl };
        tells = λ room' ticket' turn' to' first' e.
            let q = inside_same room ticket turn to room' ticket' turn' to' first first'
            (sym at ∙ e) in (
              fine,
              (
                r.content.words,
                (λ i. (
                  record (moved me.0 Leave
                      (leaving_move who (q.0 i) (q.1 i) (q.2 i)) n me.0.seen)
                      { kept = r.content.words },
                  me.1,
                )),
              ),
            );
      })

  -- the end of the exit code, where the words rest
  pub ends : Laws M → (slots id : ℕ) (me : Seated S V) (room turn next : ℕ) → me.0.role ≡ Pass
      → 0 < m → me.0.phase ≡ Exiting room turn → next ≡ (room + 1) % m
      → RestsOn M k.usage me.0.kept me.0.user
      → IsEvent M m k slots id me (1 + next) (λ n. n) (λ n me'. stepped_by M m me n me') Step
  ends laws slots id me room turn next is more at next_is rests =
      let who : ℕ = me.0.who in let mv = exiting_move m room turn in let p = Exiting room turn in
      subst (λ (z : ℕ). IsEvent M m k slots id me (1 + z) (λ n. n)
      (λ n me'. stepped_by M m me n me') Step) (sym next_is)
      (event_at M m k slots id me Step mv (λ n. n) (λ n me'. stepped_by M m me n me') is
      (λ s r there h.
      let w = r.world in let n : ℕ = get_or w.state.words.wait ((room + 1) % m) 0 in
      let L = M.lawful k.usage r.content in
      let here : phase_of w.state who ≡ p = h.phase ∙ at in
      let x = exiter m k.callers r.few_rooms r.few_callers w r.reached who room turn room here in
      record {
        seen = me.0.seen;
        owes = record {
          by = step_row m k.callers r.few_rooms r.few_callers w r.reached who p mv
              (is_one M m k s r id me.0 h) here refl;
          has = (let z = (sizes_of M m k s r).wait in
              let below : (room + 1) % m < m = omega arith in omega arith);
          apt = tt;
          starts = h.seen;
          lawful = subst L (sym x.1) (laws.passes k.usage r.content room turn who me.0.user
              (record {
                lawful = subst L x.0 r.lawful;
                sized = r.sized;
                slotted = r.slotted;
                view = h.user;
              })
              (rests r.content.words (r.kept id me.0 there is room turn at)));
          waits = λ f. absurd (not_waiting f);
        };
        same = refl;
        kept = me.0.kept;
        shows = λ a b e. absurd (no_key _ a b e refl);
        tells = tell M m k me p n mv me.0.seen at refl x.3 refl;
      }))

  -- what a step of a keeper owes that adds nothing to the trace
  keeper_owes : (s : Table M m k) (r : Rule M m k s) (id : ℕ) (v : Shown V) (p : Phase) (mv : Move)
      → Mine M m k s r id v → v.phase ≡ p → move m v.who p ≡ Some mv
      → trace (then_is r.world v.who Step mv).history ≡ trace r.world.history
      → HasWord r.world.state.words mv.word → IsApt mv.kind mv.word
      → (is_waiting (mv.next (held r.world.state.words mv.word)) ≡ true → ⊥)
      → Owes M m k s r v Step mv v.seen
  keeper_owes s r id v p mv h at by still has apt waits =
      quiet_owes M m k s r id v p mv h at by still has apt (λ f. absurd (waits f))

  -- the load of the grant of a room that is scanned
  pub peers : (slots id : ℕ) (me : Seated S V) (room turn j w' : ℕ) → me.0.role ≡ Pass
      → me.0.phase ≡ Peering room turn j w'
      → IsEvent M m k slots id me (1 + m + j) (λ n. n) (λ n me'. stepped_by M m me n me') Step
  peers slots id me room turn j w' is at =
      let mv = peering_move m room turn j w' in let p = Peering room turn j w' in
      event M m k slots id me Step mv (λ n. n) (λ n me'. stepped_by M m me n me') is (λ s r h.
      let n : ℕ = get_or r.world.state.words.grant j 0 in
      let found = Passing turn (Some j) in let none = Passing turn None in
      let on = Scanning room turn ((j + 1) % m) in let other = cond (eqb j room) none on in
      record {
        seen = me.0.seen;
        owes = keeper_owes s r id me.0 p mv h at refl refl
            (let z = (sizes_of M m k s r).grant in
            let q = peerer m k.callers r.few_rooms r.few_callers r.world r.reached me.0.who room
            turn j w' (h.phase ∙ at) in omega arith) tt
            (neither_waits (ltb n w') found other not_waiting
            (neither_waits (eqb j room) none on not_waiting not_waiting));
        same = refl;
        kept = me.0.kept;
        shows = λ a b e. absurd
            (no_key _ a b e (neither_key (ltb n w') found other refl
            (neither_key (eqb j room) none on refl refl)));
        tells = tell M m k me p n mv me.0.seen at refl tt
            (arrives_else M m k (ltb n w') found other me.0.user me.0.seen refl
            (arrives_else M m k (eqb j room) none on me.0.user me.0.seen refl refl));
      })

  -- the load of the wait of the next room
  pub scans : (slots id : ℕ) (me : Seated S V) (room turn j : ℕ) → me.0.role ≡ Pass
      → me.0.phase ≡ Scanning room turn j
      → IsEvent M m k slots id me (1 + j) (λ n. n) (λ n me'. stepped_by M m me n me') Step
  scans slots id me room turn j is at =
      let mv = scanning_move room turn j in let p = Scanning room turn j in
      event M m k slots id me Step mv (λ n. n) (λ n me'. stepped_by M m me n me') is (λ s r h.
      let n : ℕ = get_or r.world.state.words.wait j 0 in
      record {
        seen = me.0.seen;
        owes = keeper_owes s r id me.0 p mv h at refl refl
            (let z = (sizes_of M m k s r).wait in
            let q = scanner m k.callers r.few_rooms r.few_callers r.world r.reached me.0.who room
            turn j (h.phase ∙ at) in omega arith) tt not_waiting;
        same = refl;
        kept = me.0.kept;
        shows = λ a b e. absurd (no_key _ a b e refl);
        tells = tell M m k me p n mv me.0.seen at refl tt refl;
      })

  -- the store of the active word for the room that was chosen
  pub passes_on : (slots id : ℕ) (me : Seated S V) (turn j new n : ℕ) → me.0.role ≡ Pass
      → me.0.phase ≡ Passing turn (Some j) → new ≡ pack (turn + 1) (j + 1)
      → IsEvent M m k slots id me 0 (λ _. new) (λ _ me'. stepped_by M m me n me') Step
  passes_on slots id me turn j new n is at new_is =
      let mv = passing_move turn (Some j) in let p = Passing turn (Some j) in
      event M m k slots id me Step mv (λ _. new) (λ _ me'. stepped_by M m me n me') is
      (λ s r h. record {
        seen = me.0.seen;
        owes = keeper_owes s r id me.0 p mv h at refl refl tt tt not_waiting;
        same = new_is;
        kept = me.0.kept;
        shows = λ a b e. absurd (no_key _ a b e refl);
        tells = tell M m k me p n mv me.0.seen at refl tt refl;
      })

  -- the store of the idle word
  pub passes_idle : (slots id : ℕ) (me : Seated S V) (turn new n : ℕ) → me.0.role ≡ Pass
      → me.0.phase ≡ Passing turn None → new ≡ pack turn 0
      → IsEvent M m k slots id me 0 (λ _. new) (λ _ me'. stepped_by M m me n me') Step
  passes_idle slots id me turn new n is at new_is =
      let mv = passing_move turn None in let p = Passing turn None in
      event M m k slots id me Step mv (λ _. new) (λ _ me'. stepped_by M m me n me') is
      (λ s r h. record {
        seen = me.0.seen;
        owes = keeper_owes s r id me.0 p mv h at refl refl tt tt not_waiting;
        same = new_is;
        kept = me.0.kept;
        shows = λ a b e. absurd (no_key _ a b e refl);
        tells = tell M m k me p n mv me.0.seen at refl tt refl;
      })

  -- the store of the grant by one that leaves, and is out then
  pub opens_out : Laws M → (slots id : ℕ) (me : Seated S V) (room turn to n : ℕ) (first : Option ℕ)
      → me.0.role ≡ Pass → room < m → me.0.phase ≡ Admitting room 0 first turn to
      → IsEvent M m k slots id me (1 + m + room) (λ _. to) (λ _ me'. stepped_by M m me n me') Step
  opens_out laws slots id me room turn to n first is below at =
      let who : ℕ = me.0.who in let p = Admitting room 0 first turn to in
      let mv = admitting_move who room 0 first turn to in
      event M m k slots id me Step mv (λ _. to) (λ _ me'. stepped_by M m me n me') is (λ s r h.
      let w = r.world in let t = trace w.history in
      let from : ℕ = get_or w.state.words.grant room 0 in let L = M.lawful k.usage r.content in
      let here : phase_of w.state who ≡ p = h.phase ∙ at in
      let o = opener m k.callers r.few_rooms r.few_callers w r.reached who room 0 turn to first
      here in
      let open_now : L (Held room turn nobody) =
      subst (λ (z : ℕ). L (Held room z nobody)) o.before
      (laws.opens k.usage r.content (openings t) room (subst L o.shut r.lawful)) in
      let opening : Opening = record { turn = turn; room = room; from = from; to = to } in
      record {
        seen = me.0.seen;
        owes = record {
          by = step_row m k.callers r.few_rooms r.few_callers w r.reached who p mv
              (is_one M m k s r id me.0 h) here refl;
          has = (let z = (sizes_of M m k s r).grant in omega arith);
          apt = tt;
          starts = starts_trans (all_opened (Opened turn room from to ∷ t))
              (all_opened t) me.0.seen (opening ∷ [], refl) h.seen;
          lawful = subst L (sym (gate_opened t turn room from to o.empty)) open_now;
          waits = λ f. absurd (not_waiting f);
        };
        same = refl;
        kept = me.0.kept;
        shows = λ a b e. absurd (no_key _ a b e refl);
        tells = tell M m k me p n mv me.0.seen at refl tt refl;
      })
