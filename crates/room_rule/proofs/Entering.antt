-- The steps by which a caller enters: a draw, the try of a poll, and the opening of a room.
use Rattle.std.proofs.Common.{◌≡◌, ℕ, zero, suc, ◌+◌, ◌%◌, ◌^◌, ◌<◌, ◌≤◌, Bool, true, false, cond, eqb, leb, Option, Some, None, List, [], ◌∷◌, length, get_or, set, sym, refl, ap, ◌∙◌, subst, arith, append-nil}
use prog.Atomic.{either}
use Rattle.std.proofs.lemmas.Bool.{cond-true, eq-eqb, lt-ltb}
use Rattle.std.proofs.lemmas.List.{get_or-set_same}
use Rattle.room_core.specs.declared.acts.Act.{Act}
use Rattle.room_core.specs.declared.acts.Act.TheVariants.{Draw, Step}
use Rattle.room_core.specs.declared.items.Item.{Item}
use Rattle.room_core.specs.declared.items.Item.TheVariants.{Opened, Entered}
use Rattle.room_core.specs.declared.items.Opening.{Opening}
use Rattle.room_core.specs.declared.phases.Phase.{Phase}
use Rattle.room_core.specs.declared.phases.Phase.TheVariants.{Out, Looking, Glancing, Seizing, Counting, Admitting, Turning, Inside}
use Rattle.room_core.specs.Words.{held}
use Rattle.room_core.specs.Moves.{Move, drawing_move, looking_move, glancing_move, seizing_move, counting_move, admitting_move, turning_move}
use Rattle.room_core.specs.Machine.{made, phase_of}
use Rattle.room_core.specs.Active.{pack, turn_of, seen}
use Rattle.room_core.specs.Trace.{trace, is_closing, is_exiting}
use Rattle.room_core.specs.Trace.{all_opened, openings, since, last_opening}
use Rattle.room_core.specs.Gate.{Shut, Held, gate, gate_by, nobody, inside, is_there, leaver}
use Rattle.room_core.proofs.Invariant.{room_inside}
use Rattle.room_core.proofs.Facts.{IsHeld, sound, count, active_low, wait_low, draw_row, step_row, one_more, granted_to, turner, opener, bypass, gate_held, gate_entered, gate_opened_in}
use Rattle.room_rule.specs.Use.{IsAt, Meaning, IsInsider}
use Rattle.room_rule.specs.Laws.{Laws}
use Rattle.room_rule.specs.Openings.{world_openings, IsAmong, IsCovered}
use Rattle.room_rule.specs.View.{moved}
use Rattle.room_rule.specs.Rule.{is_waiting}
use Rattle.room_rule.specs.Told.{Seated, stepped_by, IsEvent}
use Rattle.room_rule.specs.declared.rule.Plan.{Plan}
use Rattle.room_rule.specs.declared.views.Role.TheVariants.{Pass}
use Rattle.room_rule.specs.declared.views.Shown.{Shown}
use Rattle.room_rule.proofs.Lists.{starts_trans}
use Rattle.room_rule.proofs.Slots.{keeps_none}
use Rattle.room_rule.proofs.Opened.{comes_in}
use Rattle.room_rule.proofs.Acts.{then_is, Table, Rule, Mine, is_one, sizes_of}
use Rattle.room_rule.proofs.Events.{no_key, neither_key, event, quiet_owes, tell, arrives_else}

not_both : true ≡ false → ⊥
not_both e = cc

not_in : (o : Option Opening) (closing exiting : Bool) (ins : ℕ → Bool) (who c : ℕ)
    → ins c ≡ false → IsInsider (gate_by o closing exiting ins who) c → ⊥
not_in None closing exiting ins who c out is = is
not_in (Some o) false exiting ins who c out is = not_both (sym is ∙ out)
not_in (Some o) true true ins who c out is = is
not_in (Some o) true false ins who c out is = is

module _ {X S V : Type 0} (M : Meaning X S V) (m : ℕ) (k : Plan X) where
  -- a draw
  pub draws : (slots id : ℕ) (me : Seated S V) (room : ℕ) (change : ℕ → ℕ)
      (then : ℕ → Seated S V → Type 0)
      → me.0.role ≡ Pass → room < m → me.0.phase ≡ Out → me.0.draws < 2 ^ 48
      → M.may_enter k.usage me.0.user
      → ((n : ℕ) → n + 1 < 2 ^ 64 → change n ≡ n + 1)
      → ((n : ℕ) → n < 2 ^ 54
      → then n (moved me.0 (Draw room) (drawing_move room) n me.0.seen, me.1))
      → IsEvent M m k slots id me (1 + room) change then (Draw room)
  draws slots id me room change then is below out more may same tells =
      event M m k slots id me (Draw room) (drawing_move room) change then is (λ s r h.
      let w = r.world in let who : ℕ = me.0.who in let n : ℕ = get_or w.state.words.wait room 0 in
      let z = sizes_of M m k s r in let wide : length w.state.words.wait ≡ m = z.wait in
      let by = draw_row m k.callers r.few_rooms r.few_callers w r.reached who room
      (is_one M m k s r id me.0 h) below (h.phase ∙ out) (let e = h.draws in omega arith) in
      let reached' = one_more m k.callers r.few_rooms r.few_callers w r.reached who (Draw room)
      (made w.state.words (drawing_move room)) by in
      let after : get_or (set w.state.words.wait room (n + 1)) room 0 ≤ 2 ^ 54 =
      wait_low m k.callers r.few_rooms r.few_callers
      (then_is w who (Draw room) (drawing_move room)) reached' room in
      let drawn : get_or (set w.state.words.wait room (n + 1)) room 0 ≡ n + 1 =
      get_or-set_same w.state.words.wait room (n + 1) 0 (omega arith) in
      let low : n < 2 ^ 54 = omega arith in
      let fine : n + 1 < 2 ^ 64 = omega arith in
      record {
        seen = me.0.seen;
        owes = record {
          by = by;
          has = omega arith;
          apt = tt;
          starts = h.seen;
          lawful = r.lawful;
          waits = λ _.
              let e : since who (then_is w who (Draw room) (drawing_move room)).history ≡ openings
              (trace w.history) =
              cond-true (eqb who who) (openings (trace w.history)) (since who w.history)
              (eq-eqb who who refl) in
              let l = r.past who me.0.user h.user in
              record { last = omega arith; may = may };
        };
        same = same n fine;
        kept = me.0.kept;
        shows = λ a b e. absurd (no_key _ a b e refl);
        tells = tells n low;
      })

  -- an opening that is known was granted
  granted : (s : Table M m k) (r : Rule M m k s) (room ticket : ℕ) (known : List Opening)
      → IsAmong (world_openings r.world) known → IsCovered known room ticket
      → ticket ≤ get_or r.world.state.words.grant room 0
  granted s r room ticket known among c =
      let o : Opening = c.1.0 in let j = among c.0 o c.1.1 in
      let g = granted_to m k.callers r.few_rooms r.few_callers r.world r.reached j.0 o j.1 in
      let grant = r.world.state.words.grant in
      let same : get_or grant o.room 0 ≡ get_or grant room 0 =
      ap (λ (z : ℕ). get_or grant z 0) c.1.2.0 in
      let le = c.1.2.1 in
      omega arith

  -- a load of the grant
  pub looks : (slots id : ℕ) (me : Seated S V) (room ticket : ℕ) (first : Option ℕ)
      → me.0.role ≡ Pass → room < m → me.0.phase ≡ Looking room ticket first
      → IsEvent M m k slots id me (1 + m + room) (λ n. n) (λ n me'. stepped_by M m me n me') Step
  looks slots id me room ticket first is below at =
      let mv = looking_move room ticket first in let p = Looking room ticket first in
      event M m k slots id me Step mv (λ n. n) (λ n me'. stepped_by M m me n me') is (λ s r h.
      let n : ℕ = get_or r.world.state.words.grant room 0 in
      let in_turn = Turning room ticket first n in let not_yet = Glancing room ticket first in
      record {
        seen = me.0.seen;
        owes = quiet_owes M m k s r id me.0 p mv h at refl refl
            (let z = (sizes_of M m k s r).grant in omega arith) tt (λ _. refl);
        same = refl;
        kept = me.0.kept;
        shows = λ a b e. absurd
            (no_key _ a b e (neither_key (leb ticket n) in_turn not_yet refl refl));
        tells = tell M m k me p n mv me.0.seen at refl
            (λ c. granted s r room ticket me.0.known h.known c)
            (arrives_else M m k (leb ticket n) in_turn not_yet me.0.user me.0.seen refl refl);
      })

  -- a load of the active word, by one that was not let in
  pub glances : (slots id : ℕ) (me : Seated S V) (room ticket : ℕ) (first : Option ℕ)
      → me.0.role ≡ Pass → me.0.phase ≡ Glancing room ticket first
      → IsEvent M m k slots id me 0 (λ n. n) (λ n me'. stepped_by M m me n me') Step
  glances slots id me room ticket first is at =
      let mv = glancing_move room ticket first in let p = Glancing room ticket first in
      event M m k slots id me Step mv (λ n. n) (λ n me'. stepped_by M m me n me') is (λ s r h.
      let n : ℕ = r.world.state.words.active in let idle = Seizing room ticket (seen first n) n in
      let busy = Looking room ticket (seen first n) in
      record {
        seen = me.0.seen;
        owes = quiet_owes M m k s r id me.0 p mv h at refl refl tt tt (λ _. refl);
        same = refl;
        kept = me.0.kept;
        shows = λ a b e. absurd (no_key _ a b e (neither_key (eqb (n % 8) 0) idle busy refl refl));
        tells = tell M m k me p n mv me.0.seen at refl
            (active_low m k.callers r.few_rooms r.few_callers r.world r.reached)
            (arrives_else M m k (eqb (n % 8) 0) idle busy me.0.user me.0.seen refl refl);
      })

  either_cond : (b : Bool) (x y : ℕ) → either b x y ≡ cond b x y
  either_cond true x y = refl
  either_cond false x y = refl

  -- the exchange of the idle word
  pub seizes : (slots id : ℕ) (me : Seated S V) (room ticket idle new : ℕ) (first : Option ℕ)
      → me.0.role ≡ Pass → me.0.phase ≡ Seizing room ticket first idle
      → new ≡ pack (turn_of idle + 1) (room + 1)
      → IsEvent M m k slots id me 0 (λ n. either (eqb n idle) new n)
      (λ n me'. stepped_by M m me n me') Step
  seizes slots id me room ticket idle new first is at new_is =
      let mv = seizing_move room ticket first idle in let p = Seizing room ticket first idle in
      event M m k slots id me Step mv (λ n. either (eqb n idle) new n)
      (λ n me'. stepped_by M m me n me') is (λ s r h.
      let n : ℕ = r.world.state.words.active in
      let won = Counting room ticket first (turn_of idle + 1) in
      let lost = Looking room ticket first in
      record {
        seen = me.0.seen;
        owes = quiet_owes M m k s r id me.0 p mv h at refl refl tt tt (λ _. refl);
        same = either_cond (eqb n idle) new n ∙ ap (λ (z : ℕ). cond (eqb n idle) z n) new_is;
        kept = me.0.kept;
        shows = λ a b e. absurd (no_key _ a b e (neither_key (eqb n idle) won lost refl refl));
        tells = tell M m k me p n mv me.0.seen at refl tt
            (arrives_else M m k (eqb n idle) won lost me.0.user me.0.seen refl refl);
      })

  -- a load of the wait
  pub counts : (slots id : ℕ) (me : Seated S V) (room ticket turn : ℕ) (first : Option ℕ)
      → me.0.role ≡ Pass → room < m → me.0.phase ≡ Counting room ticket first turn
      → IsEvent M m k slots id me (1 + room) (λ n. n) (λ n me'. stepped_by M m me n me') Step
  counts slots id me room ticket turn first is below at =
      let mv = counting_move room ticket first turn in let p = Counting room ticket first turn in
      event M m k slots id me Step mv (λ n. n) (λ n me'. stepped_by M m me n me') is (λ s r h.
      let n : ℕ = get_or r.world.state.words.wait room 0 in
      record {
        seen = me.0.seen;
        owes = quiet_owes M m k s r id me.0 p mv h at refl refl
            (let z = (sizes_of M m k s r).wait in omega arith) tt (λ f. f);
        same = refl;
        kept = me.0.kept;
        shows = λ a b e. absurd (no_key _ a b e refl);
        tells = tell M m k me p n mv me.0.seen at refl tt refl;
      })

  pub phase_after : (s : Table M m k) (r : Rule M m k s) (id : ℕ) (v : Shown V) (act : Act)
      (mv : Move) → Mine M m k s r id v
      → phase_of (then_is r.world v.who act mv).state v.who ≡ mv.next
      (held r.world.state.words mv.word)
  phase_after s r id v act mv h =
      let lp : length r.world.state.phases ≡ k.callers =
      count m k.callers r.few_rooms r.few_callers r.world r.reached in
      let one = is_one M m k s r id v h in
      get_or-set_same r.world.state.phases v.who (mv.next (held r.world.state.words mv.word)) Out
      (omega arith)

  -- the use stays lawful where a caller enters the held room
  entered_lawful : (s : Table M m k) (r : Rule M m k s) (who room turn to : ℕ) (u : V) → Laws M
      → IsHeld (trace r.world.history) room turn to
      → IsAt r.content.views who u → M.may_enter k.usage u → M.last u < turn
      → M.lawful k.usage r.content (gate (Entered who room ∷ trace r.world.history))
  entered_lawful s r who room turn to u laws now at may low =
      let t = trace r.world.history in let L = M.lawful k.usage r.content in
      subst L (sym (gate_entered t who room room turn to now))
      (laws.enters k.usage r.content room turn (inside t) who u
      (subst L (gate_held t room turn to now) r.lawful) at may low)

  -- who is in another phase is no insider
  not_inside : (s : Table M m k) (r : Rule M m k s) (who : ℕ) (p : Phase)
      → phase_of r.world.state who ≡ p → is_there (room_inside p) ≡ false
      → IsInsider (gate (trace r.world.history)) who → ⊥
  not_inside s r who p at out =
      let t = trace r.world.history in
      let a = sound m k.callers r.few_rooms r.few_callers r.world r.reached in
      not_in (last_opening t) (is_closing t) (is_exiting t) (inside t) (leaver t) who
      (ap is_there (a.good.inv.occupied who ∙ ap room_inside at) ∙ out)

  -- the load of the turn, by one that was let in
  pub turns : Laws M → (slots id : ℕ) (me : Seated S V) (room ticket to : ℕ) (first : Option ℕ)
      → me.0.role ≡ Pass → me.0.phase ≡ Turning room ticket first to
      → IsEvent M m k slots id me 0 (λ n. n) (λ n me'. stepped_by M m me n me') Step
  turns laws slots id me room ticket to first is at =
      let who : ℕ = me.0.who in let mv = turning_move who room ticket first to in
      let p = Turning room ticket first to in
      event M m k slots id me Step mv (λ n. n) (λ n me'. stepped_by M m me n me') is (λ s r h.
      let w = r.world in let n : ℕ = w.state.words.active in let t = trace w.history in
      let w' = then_is w who Step mv in
      let here : phase_of w.state who ≡ p = h.phase ∙ at in
      let by = step_row m k.callers r.few_rooms r.few_callers w r.reached who p mv
      (is_one M m k s r id me.0 h) here refl in
      let u = turner m k.callers r.few_rooms r.few_callers w r.reached who room ticket to first
      here in let ad = u.0 in
      let old = r.waits who me.0.user h.user (ap is_waiting here) in let late = u.1 in
      let low : M.last me.0.user < turn_of n = (let a = old.last in omega arith) in
      let reached' = one_more m k.callers r.few_rooms r.few_callers w r.reached who Step
      (made w.state.words mv) by in
      record {
        seen = all_opened t;
        owes = record {
          by = by;
          has = tt;
          apt = tt;
          starts = ([], sym (append-nil (all_opened t)));
          lawful = entered_lawful s r who room
              (turn_of n) to me.0.user laws ad.now h.user old.may low;
          waits = λ f. absurd (cc);
        };
        same = refl;
        kept = me.0.kept;
        shows = λ a b e. absurd (no_key _ a b e refl);
        tells = tell M m k me p n mv (all_opened t) at refl tt (
          (λ f e.
              let q = bypass m k.callers r.few_rooms r.few_callers w' reached' who room ticket f
              (turn_of n) to
              (phase_after s r id me.0 Step mv h
              ∙ ap (λ (z : Option ℕ). Inside room ticket z (turn_of n) to) e) in
              comes_in m k.callers r.few_rooms r.few_callers w r.reached ad.now.opening room ticket
              (turn_of n) to f me.0.seen
              ad.now.is_last ad.now.room_is ad.now.turn_is ad.now.to_is ad.low ad.high q.0 q.1
              h.seen),
          low,
          keeps_none M laws.slots k.usage r.content (gate t) r.lawful who me.0.user h.user
              (not_inside s r who p here refl),
        );
      })

  -- the use stays lawful where a caller opens a room and enters it
  opened_lawful : (s : Table M m k) (r : Rule M m k s) (who room turn from to : ℕ) (u : V) → Laws M
      → gate (trace r.world.history) ≡ Shut (openings (trace r.world.history))
      → ((d : ℕ) → inside (trace r.world.history) d ≡ false)
      → openings (trace r.world.history) + 1 ≡ turn → IsAt r.content.views who u
      → M.may_enter k.usage u → M.last u < turn
      → M.lawful k.usage r.content
      (gate (Entered who room ∷ Opened turn room from to ∷ trace r.world.history))
  opened_lawful s r who room turn from to u laws shut empty before at may low =
      let t = trace r.world.history in let L = M.lawful k.usage r.content in
      let open_now : L (Held room turn nobody) = subst (λ (z : ℕ). L (Held room z nobody)) before
      (laws.opens k.usage r.content (openings t) room (subst L shut r.lawful)) in
      subst L (sym (gate_opened_in t turn room from to who room empty))
      (laws.enters k.usage r.content room turn nobody who u open_now at may low)

  -- the store of the grant, by one that enters with it
  pub admits : Laws M
      → (slots id : ℕ) (me : Seated S V) (room ticket turn to n : ℕ) (first : Option ℕ)
      → me.0.role ≡ Pass → room < m → 0 < ticket
      → me.0.phase ≡ Admitting room ticket first turn to
      → IsEvent M m k slots id me (1 + m + room) (λ _. to) (λ _ me'. stepped_by M m me n me') Step
  admits laws slots id me room zero turn to n first is below more at = absurd (omega arith)
  admits laws slots id me room (suc ticket) turn to n first is below more at =
      let who : ℕ = me.0.who in let p = Admitting room (suc ticket) first turn to in
      let mv = admitting_move who room (suc ticket) first turn to in
      event M m k slots id me Step mv (λ _. to) (λ _ me'. stepped_by M m me n me') is (λ s r h.
      let w = r.world in let t = trace w.history in let w' = then_is w who Step mv in
      let from : ℕ = get_or w.state.words.grant room 0 in
      let here : phase_of w.state who ≡ p = h.phase ∙ at in
      let by = step_row m k.callers r.few_rooms r.few_callers w r.reached who p mv
      (is_one M m k s r id me.0 h) here refl in
      let o = opener m k.callers r.few_rooms r.few_callers w r.reached who room
      (suc ticket) turn to first here in
      let old = r.waits who me.0.user h.user
      (ap is_waiting here ∙ lt-ltb 0 (suc ticket) (omega arith)) in
      let past = r.past who me.0.user h.user in
      let low : M.last me.0.user < turn = (let b = o.before in omega arith) in
      let reached' = one_more m k.callers r.few_rooms r.few_callers w r.reached who Step
      (made w.state.words mv) by in
      let t' : List Item = Entered who room ∷ Opened turn room from to ∷ t in
      let opening : Opening = record { turn = turn; room = room; from = from; to = to } in
      record {
        seen = all_opened t';
        owes = record {
          by = by;
          has = (let z = (sizes_of M m k s r).grant in omega arith);
          apt = tt;
          starts = ([], sym (append-nil (all_opened t')));
          lawful =
              opened_lawful s r who room turn from to me.0.user laws o.shut o.empty o.before h.user
              old.may low;
          waits = λ f. absurd (cc);
        };
        same = refl;
        kept = me.0.kept;
        shows = λ a b e. absurd (no_key _ a b e refl);
        tells = tell M m k me p n mv (all_opened t') at refl tt (
          (λ f e.
              let q = bypass m k.callers r.few_rooms r.few_callers w' reached' who room
              (suc ticket) f turn to
              (phase_after s r id me.0 Step mv h
              ∙ ap (λ (z : Option ℕ). Inside room (suc ticket) z turn to) e) in
              comes_in m k.callers r.few_rooms r.few_callers w' reached' opening room
              (suc ticket) turn to f me.0.seen
              refl refl refl refl (o.low more) o.high q.0 q.1
              (starts_trans (all_opened t') (all_opened t) me.0.seen (opening ∷ [], refl) h.seen)),
          low,
          keeps_none M laws.slots k.usage r.content (gate t) r.lawful who me.0.user h.user
              (not_inside s r who p here refl),
        );
      })
