-- A step on a user word keeps the rule, where the use allows it.
use Rattle.std.proofs.Common.{◌≡◌, ◌≢◌, ℕ, ◌+◌, ◌-◌, ◌*◌, ◌^◌, ◌<◌, ◌≤◌, ⊎_elim, inl, inr, Bool, true, false, Option, Some, None, List, length, get_or, set, sym, refl, ap, ◌∙◌, subst, arith, length-set, ◌++◌}
use mathlib.Core.Option.{some, some-injective}
use lib.ListN.{get_elem?}
use Rattle.std.proofs.lemmas.Bool.{cases_eq}
use Rattle.std.proofs.lemmas.List.{set-append_right, get_or-append_right, get_or-set_same, get_or-set_other}
use Rattle.atomic_table.specs.Table.{Act as SlotAct, keeps, carried_after, homes_after, stepped}
use Rattle.atomic_table.proofs.Lists.{at_set, set_else}
use Rattle.room_core.specs.declared.items.Opening.{Opening}
use Rattle.room_core.specs.declared.phases.Phase.TheVariants.{Out, Inside, Exiting}
use Rattle.room_core.specs.Words.{listed}
use Rattle.room_core.specs.Runs.{World}
use Rattle.room_core.specs.Machine.{phase_of}
use Rattle.room_core.specs.Trace.{trace, is_closing, is_exiting}
use Rattle.room_core.specs.Trace.{openings, last_opening}
use Rattle.room_core.specs.Gate.{Gate, Shut, Held, Keyed, gate, gate_by, inside, leaver}
use Rattle.room_core.proofs.Listed.{length-listed}
use Rattle.room_core.proofs.Facts.{outsider, key_elsewhere, key_turn, exiter, insider, gate_held, held_turn}
use Rattle.room_rule.specs.Use.{IsAt, Slots, Content, Own, own, contents_of, slots_after, user_step, rewritten, written, Meaning, Outside, StandsInside, HasKey, StandsOutside, ShowsWords, user_place}
use Rattle.room_rule.specs.Callers.{after_step}
use Rattle.room_rule.specs.Laws.{Laws}
use Rattle.room_rule.specs.Steps.{CanStep, CanExit, CanTouch}
use Rattle.room_rule.specs.View.{used, keyed}
use Rattle.room_rule.specs.Rule.{Roll, Knows, ShowsKept, is_waiting, MayStillEnter}
use Rattle.room_rule.specs.Told.{Seated, held_in, Carries, IsNoEvent}
use Rattle.room_rule.specs.declared.rule.Plan.{Plan}
use Rattle.room_rule.specs.declared.views.Role.{Role}
use Rattle.room_rule.specs.declared.views.Role.TheVariants.{Maker, Pass, Note, Keeper, Gone}
use Rattle.room_rule.specs.declared.views.Shown.{Shown}
use Rattle.room_rule.proofs.Lists.{there_set}
use Rattle.room_rule.proofs.Slots.{home, moves_one, same_slot, length_after}
use Rattle.room_rule.proofs.Acts.{Table, Rule, mine, sizes_of}

not_true : false ≡ true → ⊥
not_true e = cc

no_slot : (k : ℕ) → ◌≡◌ {A = Option ℕ} None (Some k) → ⊥
no_slot k e = cc

not_false : true ≡ false → ⊥
not_false e = cc

abbrev is_keyed : Gate → Bool
is_keyed (Shut t) = false
is_keyed (Held r t ins) = false
is_keyed (Keyed r t c) = true

abbrev holder : Gate → ℕ
holder (Shut t) = 0
holder (Held r t ins) = 0
holder (Keyed r t c) = c

not_keyed : (g : Gate) (r t c : ℕ) → g ≡ Keyed r t c → is_keyed g ≡ false → ⊥
not_keyed g r t c e f = not_true (sym f ∙ ap is_keyed e)

inside_not : (room ticket turn to a b : ℕ) (first : Option ℕ)
    → Inside room ticket first turn to ≡ Exiting a b → ⊥
inside_not room ticket turn to a b first e = cc

out_not : (a b : ℕ) → Out ≡ Exiting a b → ⊥
out_not a b e = cc

-- who is in no room, and is not who left last while exit code runs, is outside
outside_of : (o : Option Opening) (closing exiting : Bool) (ins : ℕ → Bool) (who c : ℕ)
    → ins c ≡ false → (exiting ≡ true → who ≡ c → ⊥) → Outside (gate_by o closing exiting ins who) c
outside_of None closing exiting ins who c out free = tt
outside_of (Some o) false exiting ins who c out free = out
outside_of (Some o) true true ins who c out free = free refl
outside_of (Some o) true false ins who c out free = tt

module _ {X S V : Type 0} (M : Meaning X S V) (x : X) where
  -- a word is set, in what is shown too
  pub shows_set : (words kept : List ℕ) (word value : ℕ) → length words ≡ M.words x
      → ShowsWords M x kept words → ShowsWords M x (set kept word value) (set words word value)
  shows_set words kept word value size a = record {
    long = length-set kept word value ∙ a.long;
    same = λ i under other. let long = a.long in elim (cases_eq i word) [
      | inl same ↦ ap (λ (z : ℕ). get_or (set words word value) z 0) same
          ∙ (get_or-set_same words word value 0 (omega arith)
          ∙ sym (get_or-set_same kept word value 0 (omega arith)))
          ∙ ap (λ (z : ℕ). get_or (set kept word value) z 0) (sym same)
      | inr ne ↦ get_or-set_other words word i value 0 ne
          ∙ (a.same i under other ∙ sym (get_or-set_other kept word i value 0 ne))
    ];
  }

  -- a word is set to what it is
  pub shows_same : (words kept : List ℕ) (word value : ℕ) → length words ≡ M.words x
      → value ≡ get_or words word 0 → ShowsWords M x kept words
      → ShowsWords M x kept (set words word value)
  shows_same words kept word value size e a = record {
    long = a.long;
    same = λ i under other. elim (cases_eq i word) [
      | inl same ↦ (ap (λ (z : ℕ). get_or (set words word value) z 0) same
          ∙ (get_or-set_same words word value 0 (omega arith)
          ∙ (e ∙ ap (λ (z : ℕ). get_or words z 0) (sym same))) ∙ a.same i under other)
      | inr ne ↦ get_or-set_other words word i value 0 ne ∙ a.same i under other
    ];
  }

  -- a touch word is set
  shows_touch : (words kept : List ℕ) (word value : ℕ) → M.is_touch x word ≡ true
      → ShowsWords M x kept words → ShowsWords M x kept (set words word value)
  shows_touch words kept word value touch a = record {
    long = a.long;
    same = λ i under other.
        let ne : i ≢ word = λ e. not_false (sym touch ∙ (ap (M.is_touch x) (sym e) ∙ other)) in
        get_or-set_other words word i value 0 ne ∙ a.same i under other;
  }

-- what another seat shows stays so, where one caller's user view changes
others_know : {V : Type 0} (w : World) (views : List V) (roll : Roll) (who seat id : ℕ) (u : V)
    → roll.seat_of who ≡ seat → id ≢ seat → (role : Role) (v : Shown V)
    → Knows w views roll id role v → Knows w (set views who u) roll id role v
others_know w views roll who seat id u mine apart Maker v h = h
others_know w views roll who seat id u mine apart Gone v h = tt
others_know w views roll who seat id u mine apart Note v h = h
others_know w views roll who seat id u mine apart Keeper v h = λ i e at.
    let q = h i e at in
    let not_me : e.who ≢ who = λ f. apart (sym q.seat ∙ (ap roll.seat_of f ∙ mine)) in
    record {
      seat = q.seat;
      made = q.made;
      out = q.out;
      user = set_else views who e.who u not_me
          ∙ q.user;
    }
others_know w views roll who seat id u mine apart Pass v h =
    let not_me : v.who ≢ who = λ e. apart (sym h.seat ∙ (ap roll.seat_of e ∙ mine)) in
    record {
      seat = h.seat;
      made = h.made;
      phase = h.phase;
      draws = h.draws;
      user =
          set_else views who v.who u not_me ∙ h.user;
      seen = h.seen;
      known = h.known;
    }

module _ {X S V : Type 0} (M : Meaning X S V) (m : ℕ) (k : Plan X) where
  -- a user word in the table
  pub user_word : (s : Table M m k) (r : Rule M m k s) (word : ℕ)
      → get_or s.words (user_place m word) 0 ≡ get_or r.content.words word 0
  user_word s r word =
      let w = r.world.state.words in
      let long : length (listed w) ≡ 1 + 3 * m = length-listed m w (sizes_of M m k s r) in
      let back : user_place m word - (1 + 3 * m) ≡ word = omega arith in
      ap (λ (l : List ℕ). get_or l (user_place m word) 0) r.words
      ∙ (get_or-append_right (listed w) r.content.words (1 + 3 * m) (user_place m word) 0 long
      (omega arith) ∙ ap (λ (z : ℕ). get_or r.content.words z 0) back)

  user_word_set : (s : Table M m k) (r : Rule M m k s) (word value : ℕ)
      → set s.words
      (user_place m word) value ≡ listed r.world.state.words ++ set r.content.words word value
  user_word_set s r word value =
      let w = r.world.state.words in
      let long : length (listed w) ≡ 1 + 3 * m = length-listed m w (sizes_of M m k s r) in
      let back : user_place m word - (1 + 3 * m) ≡ word = omega arith in
      ap (λ (l : List ℕ). set l (user_place m word) value) r.words
      ∙ (set-append_right (listed w) r.content.words (1 + 3 * m) (user_place m word) value long
      (omega arith) ∙ ap (λ (z : ℕ). listed w ++ set r.content.words z value) back)

  -- what a step of a caller on a user word owes
  record OwesUse (s : Table M m k) (r : Rule M m k s) (id : ℕ) (v : Shown V) (word value : ℕ)
      (u : V) (kept : List ℕ) (slots : Slots S) (carried : List (ℕ × Option S))
      (act : SlotAct (Option S)) : Type 0 where
    pub lawful : M.lawful k.usage (record {
      words = set r.content.words word value;
      slots = slots;
      views = set r.content.views v.who u;
    }) (gate (trace r.world.history))
    pub homes : homes_after s.homes carried act ≡ slots
    pub slotted : length slots ≡ M.slots k.usage
    pub past : M.last u ≤ openings (trace r.world.history)
    pub waits : is_waiting (phase_of r.world.state v.who) ≡ true
        → MayStillEnter M k.usage r.world v.who u
    pub own : ShowsKept M k.usage (set r.content.words word value) (keyed v u kept)
    pub others : (j : ℕ) (d : Shown V) → j ≢ id → IsAt s.views j d
        → ShowsKept M k.usage (set r.content.words word value) d

  used_on : (s : Table M m k) (r : Rule M m k s) (id : ℕ) (v : Shown V) (word value : ℕ) (u : V)
      (kept : List ℕ) (slots : Slots S) (cs : List (ℕ × Option S)) (act : SlotAct (Option S))
      → IsAt s.views id v → v.role ≡ Pass → OwesUse s r id v word value u kept slots cs act
      → (after : Rule M m k (stepped s (user_place m word) value id cs (keyed v u kept) act))
      × (after.world ≡ r.world)
  used_on s r id v word value u kept slots cs act at is o =
      let h = mine M m k s r id v at is in let w = r.world in let now = keyed v u kept in
      let views' = set r.content.views v.who u in
      let So : ℕ → Shown V → Type 0 = λ j d. Knows w views' r.roll j d.role d in
      let so : So id now = subst (λ (z : Role). Knows w views' r.roll id z now) (sym is) (record {
        seat = h.seat;
        made = h.made;
        phase = h.phase;
        draws = h.draws;
        user = there_set r.content.views v.who v.user u h.user;
        seen = h.seen;
        known = h.known;
      }) in (
        record {
          world = w;
          reached = r.reached;
          content = record {
            words = set r.content.words word value;
            slots = slots;
            views = views';
          };
          words = user_word_set s r word value;
          sized = length-set r.content.words word value ∙ r.sized;
          slots = o.homes;
          slotted = o.slotted;
          crowd = length-set r.content.views v.who u ∙ r.crowd;
          few_callers = r.few_callers;
          few_rooms = r.few_rooms;
          roll = r.roll;
          few_made = r.few_made;
          each = after_step So s.views id now so
              (λ j d apart e.
              others_know w r.content.views r.roll v.who id j u h.seat apart d.role d
              (r.each j d e));
          unmade = λ c late under.
              let q = r.unmade c late under in let l = h.made in
              let ne : c ≢ v.who = λ e. omega arith in
              record {
                out = q.out;
                draws = q.draws;
                user = set_else r.content.views v.who c u ne
                    ∙ q.user;
              };
          kept = after_step (λ j d.
              ShowsKept M k.usage (set r.content.words word value) d) s.views id now o.own o.others;
          lawful = o.lawful;
          past = λ c y e. ⊎_elim
              (λ (t : (c ≡ v.who) × (u ≡ y)).
              subst (λ (z : V). M.last z ≤ openings (trace w.history)) t.1 o.past)
              (λ (t : (c ≢ v.who) × IsAt r.content.views c y). r.past c y t.1)
              (at_set r.content.views v.who c u y e);
          waits = λ c y e f. ⊎_elim
              (λ (t : (c ≡ v.who) × (u ≡ y)).
              subst (λ (z : ℕ × V). MayStillEnter M k.usage w z.0 z.1) (λ i. (sym t.0 i, t.1 i))
              (o.waits (ap (λ (z : ℕ). is_waiting (phase_of w.state z)) (sym t.0) ∙ f)))
              (λ (t : (c ≢ v.who) × IsAt r.content.views c y). r.waits c y t.1 f)
              (at_set r.content.views v.who c u y e);
        },
        refl,
      )

  -- who shows that it has the key has it
  pub keyed_by : (s : Table M m k) (r : Rule M m k s) (j : ℕ) (d : Shown V) (room turn : ℕ)
      → IsAt s.views j d → d.role ≡ Pass → d.phase ≡ Exiting room turn
      → gate (trace r.world.history) ≡ Keyed room turn d.who
  keyed_by s r j d room turn at is e = let h = mine M m k s r j d at is in
      (exiter m k.callers r.few_rooms r.few_callers r.world r.reached d.who room turn room
      (h.phase ∙ e)).0

  -- and nobody else
  alone : (s : Table M m k) (r : Rule M m k s) (id j : ℕ) (v d : Shown V) (room turn a b : ℕ)
      → IsAt s.views id v → v.role ≡ Pass → v.phase ≡ Exiting room turn
      → IsAt s.views j d → d.role ≡ Pass → d.phase ≡ Exiting a b → j ≡ id
  alone s r id j v d room turn a b at is e there its f =
      let g = keyed_by s r id v room turn at is e in let g' = keyed_by s r j d a b there its f in
      let who : d.who ≡ v.who = ap holder (sym g' ∙ g) in
      sym (mine M m k s r j d there its).seat
      ∙ (ap r.roll.seat_of who ∙ (mine M m k s r id v at is).seat)

  -- who shows that it is inside stands inside the held room
  pub stands_inside : (s : Table M m k) (r : Rule M m k s) (id : ℕ) (v : Shown V)
      (room ticket turn to : ℕ) (first : Option ℕ) → IsAt s.views id v → v.role ≡ Pass
      → v.phase ≡ Inside room ticket first turn to
      → StandsInside M k.usage room turn (inside (trace r.world.history)) v.who v.user r.content
      × (gate (trace r.world.history) ≡ Held room turn (inside (trace r.world.history)))
  stands_inside s r id v room ticket turn to first here is at =
      let h = mine M m k s r id v here is in
      let t = trace r.world.history in
      let g = insider m k.callers r.few_rooms r.few_callers r.world r.reached v.who room ticket turn to
      first (h.phase ∙ at) in
      let gate_is = gate_held t room turn to g.0.now in (
        record {
          lawful = subst (M.lawful k.usage r.content) gate_is r.lawful;
          sized = r.sized;
          slotted = r.slotted;
          view = h.user;
          inside = g.1;
        },
        gate_is,
      )

  -- who shows that it has the key has it, and shows the words
  pub has_key : (s : Table M m k) (r : Rule M m k s) (id : ℕ) (v : Shown V) (room turn : ℕ)
      → IsAt s.views id v → v.role ≡ Pass → v.phase ≡ Exiting room turn
      → HasKey M k.usage room turn v.who v.user r.content
      × ShowsWords M k.usage v.kept r.content.words
  has_key s r id v room turn here is at = (
    record {
      lawful = subst (M.lawful k.usage r.content) (keyed_by s r id v room turn here is at) r.lawful;
      sized = r.sized;
      slotted = r.slotted;
      view = (mine M m k s r id v here is).user;
    },
    r.kept id v here is room turn at,
  )

  -- who shows that it is out stands outside all rooms
  pub stands_outside : (s : Table M m k) (r : Rule M m k s) (id : ℕ) (v : Shown V)
      → IsAt s.views id v → v.role ≡ Pass → v.phase ≡ Out
      → StandsOutside M k.usage (gate (trace r.world.history)) v.who v.user r.content
  stands_outside s r id v here is at =
      let h = mine M m k s r id v here is in
      let t = trace r.world.history in
      let phase : phase_of r.world.state v.who ≡ Out = h.phase ∙ at in
      record {
        lawful = r.lawful;
        sized = r.sized;
        slotted = r.slotted;
        view = h.user;
        outside = outside_of (last_opening t) (is_closing t) (is_exiting t) (inside t) (leaver t) v.who
            (outsider m k.callers r.few_rooms r.few_callers r.world r.reached v.who phase)
            (key_elsewhere m k.callers r.few_rooms r.few_callers r.world r.reached v.who phase);
      }

  -- a slot that a step takes is at home, since nobody else keeps it after the step either
  taken_home : Laws M → (s : Content S V) (who : ℕ) (v u : V) (word value j : ℕ)
      (contents : Option S) (g : Gate) → length s.slots ≡ M.slots k.usage
      → M.lawful k.usage s g → IsAt s.views who v
      → M.lawful k.usage (written M s who v word value u contents) g → M.keeps v ≡ None
      → M.keeps u ≡ Some j → (y : Option S) × IsAt s.slots j (some y)
  taken_home laws s who v u word value j contents g long lawful at next none_before takes =
      let after = written M s who v word value u contents in
      let its : IsAt after.views who u = there_set s.views who v u at in
      let below = (laws.slots.insiders k.usage after g who u j next its takes).1 in
      home M laws.slots k.usage s g lawful j below long (λ kept.
      elim (cases_eq kept.0 who) [
        | inl same ↦ (
            let is : kept.1 ≡ v = some-injective kept.1 v
            (sym kept.2 ∙ (ap (get_elem? s.views) same ∙ at)) in
            no_slot j (sym none_before ∙ (ap M.keeps (sym is) ∙ kept.3)))
        | inr ne ↦ ne
            (laws.slots.one k.usage after g kept.0 who kept.1 u j next
            (set_else s.views who kept.0 u ne ∙ kept.2) its kept.3 takes)
      ])

  -- a step of an insider
  pub steps : Laws M → (slots id : ℕ) (me : Seated S V) (room ticket turn to word : ℕ)
      (first : Option ℕ) (change plain : ℕ → ℕ) (fits : ℕ → Type 0)
      (tells : Own S V → ℕ → ℕ → Own S V → Type 0) (then : ℕ → Seated S V → Type 0)
      → me.0.role ≡ Pass → me.0.phase ≡ Inside room ticket first turn to → word < M.words k.usage
      → Carries (M.keeps me.0.user) me.1
      → CanStep M k.usage me.0.who me.0.user word plain room turn (held_in me.1) fits tells
      → ((n : ℕ) → n < 2 ^ 64 → fits n → change n ≡ plain n)
      → ((n : ℕ) (u : V) (carried : List (ℕ × Option S)) → Carries (M.keeps u) carried
      → tells (own me.0.user (held_in me.1)) n (plain n) (own u (held_in carried))
      → then n (used me.0 u, carried))
      → IsNoEvent M m k slots id me (user_place m word) change then
  steps laws slots id me room ticket turn to word first change plain fits tells then is at there
      has asks same told s r _ here small_word =
      let v : Shown V = me.0 in let h = mine M m k s r id v here is in let w = r.world in
      let t = trace w.history in
      let L = M.lawful k.usage in
      let phase : phase_of w.state v.who ≡ Inside room ticket first turn to = h.phase ∙ at in
      let g = insider m k.callers r.few_rooms r.few_callers w r.reached v.who room ticket turn to
      first phase in let now = g.0.now in
      let so = stands_inside s r id v room ticket turn to first here is at in
      let stands = so.0 in let gate_is = so.1 in
      let n : ℕ = get_or r.content.words word 0 in
      let e : get_or s.words (user_place m word) 0 ≡ n = user_word s r word in
      let fine : n < 2 ^ 64 = subst (λ (z : ℕ). z < 2 ^ 64) e small_word in
      let a = asks r.content (inside t) stands fine in let u : V = a.1.0 in
      let held = held_in me.1 in let contents = contents_of held in
      let next = laws.steps k.usage r.content room turn (inside t) v.who v.user word
      (plain n) u contents stands there a.1.1 in
      let low : M.last u ≤ openings t = ⊎_elim
      (λ (q : M.last u ≡ M.last v.user). let old = r.past v.who v.user h.user in omega arith)
      (λ (q : M.last u ≡ turn). let held_now =
      held_turn m k.callers r.few_rooms r.few_callers w r.reached room turn to now in
      omega arith)
      (laws.last_turns.steps k.usage r.content room turn (inside t) v.who v.user word
      (plain n) u contents stands there a.1.1) in
      let slots' = slots_after r.content.slots (M.keeps v.user) (M.keeps u) contents in
      let one = laws.slots.moves k.usage room
      (user_step r.content (Held room turn (inside t)) v.who word (plain n) u contents) v.user
      h.user a.1.1 in
      let mv = moves_one s.homes r.content.slots me.1 (M.keeps v.user) (M.keeps u) r.slots has
      (λ none_before j takes.
      taken_home laws r.content v.who v.user u word (plain n) j contents
      (Held room turn (inside t)) r.slotted stands.lawful h.user next none_before takes)
      (λ i j x y. same_slot (M.keeps v.user) (M.keeps u) i j one x y) in (
        used v u,
        mv.act,
        mv.valid,
        subst (λ (z : ℕ). (after : Rule M m k
            (stepped s (user_place m word) z id me.1 (used v u) mv.act)) × (after.world ≡ w))
            (sym (ap change e ∙ same n fine a.0))
            (used_on s r id v word (plain n) u v.kept slots' me.1 mv.act here is (record {
              lawful = subst (L (written M r.content v.who v.user word (plain n) u contents))
                  (sym gate_is) next;
              homes = mv.homes;
              slotted = length_after r.content.slots (M.keeps v.user) (M.keeps u) contents
                  ∙ r.slotted;
              past = low;
              waits = λ q. absurd (not_true (ap is_waiting (sym phase) ∙ q));
              own = λ _ a b q. absurd (inside_not room ticket turn to a b first (sym at ∙ q));
              others = λ j d _ there its a b q.
                  absurd (not_keyed (gate t) a b d.who (keyed_by s r j d a b there its q)
                  (ap is_keyed gate_is));
            })),
        subst (λ (z : ℕ). then z (used v u, carried_after me.1 mv.act)) (sym e)
            (told n u (carried_after me.1 mv.act) mv.carries
            (subst (λ (z : Option (Option S)).
            tells (own v.user held) n (plain n) (own u z)) (sym mv.held) a.1.2)),
      )

  -- a step of the key's holder
  pub exits : Laws M → (slots id : ℕ) (me : Seated S V) (room turn word : ℕ) (change plain : ℕ → ℕ)
      (kept' : ℕ → List ℕ) (tells : Own S V → ℕ → ℕ → Own S V → Type 0) (then : ℕ → Seated S V → Type 0)
      → me.0.role ≡ Pass → me.0.phase ≡ Exiting room turn → word < M.words k.usage
      → CanExit M k.usage me.0.who me.0.user word plain room turn me.0.kept tells
      → ((n : ℕ) → n < 2 ^ 64 → change n ≡ plain n)
      → ((words : List ℕ) → length words ≡ M.words k.usage → ShowsWords M k.usage me.0.kept words
      → ShowsWords M k.usage (kept' (get_or words word 0))
      (set words word (plain (get_or words word 0))))
      → ((n : ℕ) (u : V) → (M.is_touch k.usage word ≡ false → n ≡ get_or me.0.kept word 0)
      → length me.0.kept ≡ M.words k.usage → tells (own me.0.user None) n (plain n) (own u None)
      → then n (keyed me.0 u (kept' n), me.1))
      → IsNoEvent M m k slots id me (user_place m word) change then
  exits laws slots id me room turn word change plain kept' tells then is at there asks same keeps'
      told s r _ here small_word =
      let v : Shown V = me.0 in let h = mine M m k s r id v here is in let w = r.world in
      let t = trace w.history in
      let L = M.lawful k.usage in
      let phase : phase_of w.state v.who ≡ Exiting room turn = h.phase ∙ at in
      let gate_is : gate t ≡ Keyed room turn v.who = keyed_by s r id v room turn here is at in
      let so = has_key s r id v room turn here is at in let has = so.0 in
      let known : ShowsWords M k.usage v.kept r.content.words = so.1 in
      let n : ℕ = get_or r.content.words word 0 in
      let e : get_or s.words (user_place m word) 0 ≡ n = user_word s r word in
      let fine : n < 2 ^ 64 = subst (λ (z : ℕ). z < 2 ^ 64) e small_word in
      let a = asks r.content has known fine in let u : V = a.0 in
      let next = laws.exits k.usage r.content room turn v.who v.user word
      (plain n) u has there a.1 in
      let low : M.last u ≤ openings t = ⊎_elim
      (λ (q : M.last u ≡ M.last v.user). let old = r.past v.who v.user h.user in omega arith)
      (λ (q : M.last u ≡ turn). let last =
      key_turn m k.callers r.few_rooms r.few_callers w r.reached v.who room turn phase in
      omega arith)
      (laws.last_turns.exits k.usage r.content room turn v.who v.user word
      (plain n) u has there a.1) in (
        keyed v u (kept' n),
        keeps,
        tt,
        subst (λ (z : ℕ). (after : Rule M m k
            (stepped s (user_place m word) z id me.1 (keyed v u (kept' n)) keeps))
            × (after.world ≡ w)) (sym (ap change e ∙ same n fine))
            (used_on s r id v word (plain n) u (kept' n) r.content.slots me.1 keeps here is (record {
              lawful = subst (L (rewritten r.content v.who word (plain n) u)) (sym gate_is) next;
              homes = r.slots;
              slotted = r.slotted;
              past = low;
              waits = λ q. absurd (not_true (ap is_waiting (sym phase) ∙ q));
              own = λ _ _ _ _. keeps' r.content.words r.sized known;
              others = λ j d apart there' its a b q.
                  absurd (apart (alone s r id j v d room turn a b here is at there' its q));
            })),
        subst (λ (z : ℕ). then z (keyed v u (kept' n), me.1)) (sym e)
            (told n u (known.same word there) known.long a.2),
      )

  -- a touch
  pub touches : Laws M
      → (slots id : ℕ) (me : Seated S V) (word : ℕ) (change plain : ℕ → ℕ) (fits : ℕ → Type 0)
      (tells : Own S V → ℕ → ℕ → Own S V → Type 0) (then : ℕ → Seated S V → Type 0)
      → me.0.role ≡ Pass → me.0.phase ≡ Out → word < M.words k.usage
      → CanTouch M k.usage me.0.who me.0.user word plain fits tells
      → ((n : ℕ) → n < 2 ^ 64 → fits n → change n ≡ plain n)
      → ((n : ℕ) (u : V) → tells (own me.0.user None) n (plain n) (own u None)
      → then n (used me.0 u, me.1))
      → IsNoEvent M m k slots id me (user_place m word) change then
  touches laws slots id me word change plain fits tells then is at there asks same told s r _ here
      small_word =
      let v : Shown V = me.0 in let h = mine M m k s r id v here is in let w = r.world in
      let t = trace w.history in
      let phase : phase_of w.state v.who ≡ Out = h.phase ∙ at in
      let n : ℕ = get_or r.content.words word 0 in
      let e : get_or s.words (user_place m word) 0 ≡ n = user_word s r word in
      let fine : n < 2 ^ 64 = subst (λ (z : ℕ). z < 2 ^ 64) e small_word in
      let stands = stands_outside s r id v here is at in
      let a = asks r.content (gate t) stands fine in let u : V = a.1.0 in
      let next = laws.touches k.usage r.content (gate t) v.who v.user word
      (plain n) u stands there a.1.1 in
      let same_last = laws.last_turns.touches k.usage r.content (gate t) v.who v.user word
      (plain n) u stands there a.1.1 in
      let touch : M.is_touch k.usage word ≡ true =
      laws.touch_words.touches k.usage
      (record {
        before = r.content;
        gate = gate t;
        who = v.who;
        word = word;
        value =
            plain n;
        after = u;
        contents = None;
      }) a.1.1 in
      let low : M.last u ≤ openings t = (let old = r.past v.who v.user h.user in omega arith) in (
        used v u,
        keeps,
        tt,
        subst (λ (z : ℕ). (after : Rule M m k
            (stepped s (user_place m word) z id me.1 (used v u) keeps)) × (after.world ≡ w))
            (sym (ap change e ∙ same n fine a.0))
            (used_on s r id v word (plain n) u v.kept r.content.slots me.1 keeps here is (record {
              lawful = next;
              homes = r.slots;
              slotted = r.slotted;
              past = low;
              waits = λ q. absurd (not_true (ap is_waiting (sym phase) ∙ q));
              own = λ _ a b q. absurd (out_not a b (sym at ∙ q));
              others = λ j d _ there' its a b q.
                  shows_touch M k.usage r.content.words d.kept word (plain n) touch
                  (r.kept j d there' its a b q);
            })),
        subst (λ (z : ℕ). then z (used v u, me.1)) (sym e) (told n u a.1.2),
      )
