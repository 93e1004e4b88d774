-- An act of the protocol keeps the rule.
use Rattle.std.proofs.Common.{◌≡◌, ℕ, ◌+◌, ◌*◌, ◌<◌, ◌≢◌, inl, inr, true, eqb, Option, Ok, List, ◌∷◌, ◌++◌, length, get_or, set, sym, refl, ap, ◌∙◌, subst, arith}
use mathlib.Core.Option.{some-injective}
use lib.ListN.{get_elem?}
use Rattle.std.proofs.lemmas.Bool.{cond-false, ne_eqb, cases_eq}
use Rattle.std.proofs.lemmas.List.{set-append_left, get_or_append_left, get_or-set_same, get_or-set_other}
use Rattle.atomic_table.specs.Table.{State, keeps, stepped}
use Rattle.room_core.specs.declared.acts.Act.{Act}
use Rattle.room_core.specs.declared.acts.Act.TheVariants.{Draw, Step, Leave}
use Rattle.room_core.specs.declared.items.Opening.{Opening}
use Rattle.room_core.specs.declared.phases.Phase.TheVariants.{Out, Exiting}
use Rattle.room_core.specs.Words.{HasWord, held, listed, place}
use Rattle.room_core.specs.Runs.{World, Moment, carried, happens}
use Rattle.room_core.specs.Moves.{Move, value_of}
use Rattle.room_core.specs.Machine.{made, row_of, phase_of, draws_after}
use Rattle.room_core.specs.Trace.{trace}
use Rattle.room_core.specs.Trace.{since}
use Rattle.room_core.specs.Gate.{gate}
use Rattle.room_core.proofs.Listed.{Sized, IsApt, touched_listed, held_listed, length-listed, place_below}
use Rattle.room_core.proofs.Facts.{sizes, count, drawers, one_more}
use Rattle.room_rule.specs.Use.{IsAt, Meaning, ShowsWords}
use Rattle.room_rule.specs.Callers.{after_step}
use Rattle.room_rule.specs.Openings.{world_openings, StartsWith}
use Rattle.room_rule.specs.View.{moved, drawn_by}
use Rattle.room_rule.specs.Rule.{Roll, IsCaller, Knows, is_waiting, MayStillEnter, ShowsKept, Ruled}
use Rattle.room_rule.specs.declared.rule.Plan.{Plan}
use Rattle.room_rule.specs.declared.views.Role.{Role}
use Rattle.room_rule.specs.declared.views.Role.TheVariants.{Maker, Pass, Note, Keeper, Gone}
use Rattle.room_rule.specs.declared.views.Shown.{Shown}
use Rattle.room_rule.proofs.Lists.{starts_trans, among_more, among_first}
use Rattle.room_rule.proofs.Opened.{grown, more_openings}

-- the state after an act that is accepted, and its moment
abbrev pub then_is : World → ℕ → Act → Move → World
then_is w c act mv = carried w c act (Ok (made w.state.words mv))

abbrev pub moment_is : World → ℕ → Act → Move → Moment
moment_is w c act mv = record { caller = c; act = act; event = (made w.state.words mv).1 }

draws_else : (draws : List ℕ) (c d : ℕ) (act : Act) → d ≢ c
    → get_or (draws_after draws c act) d 0 ≡ get_or draws d 0
draws_else draws c d (Draw r) ne = get_or-set_other draws c d (get_or draws c 0 + 1) 0 ne
draws_else draws c d Step ne = refl
draws_else draws c d Leave ne = refl

draws_here : (draws : List ℕ) (c : ℕ) (act : Act) → c < length draws
    → get_or (draws_after draws c act) c 0 ≡ drawn_by act (get_or draws c 0)
draws_here draws c (Draw r) h = get_or-set_same draws c (get_or draws c 0 + 1) 0 h
draws_here draws c Step h = refl
draws_here draws c Leave h = refl

since_else : (c d : ℕ) (m : Moment) (h : List Moment) → m.caller ≡ c → d ≢ c
    → since d (m ∷ h) ≡ since d h
since_else c d m h e ne =
    cond-false (eqb m.caller d) _ (since d h) (ne_eqb m.caller d (λ q. ne (sym q ∙ e)))

-- what another seat knows stays so, where one caller acts
others_know : {V : Type 0} (w : World) (views : List V) (roll : Roll) (who seat id : ℕ) (act : Act)
    (mv : Move) → roll.seat_of who ≡ seat → id ≢ seat
    → (role : Role) (v : Shown V) → Knows w views roll id role v
    → Knows (then_is w who act mv) views roll id role v
others_know w views roll who seat id act mv mine apart Maker v h = h
others_know w views roll who seat id act mv mine apart Gone v h = tt
others_know w views roll who seat id act mv mine apart Note v h =
    starts_trans (world_openings (then_is w who act mv)) (world_openings w) v.seen
    (grown (moment_is w who act mv) w.history) h
others_know w views roll who seat id act mv mine apart Keeper v h = λ i e at.
    let q = h i e at in
    let not_me : e.who ≢ who = λ f. apart (sym q.seat ∙ (ap roll.seat_of f ∙ mine)) in
    record {
      seat = q.seat;
      made = q.made;
      out = get_or-set_other w.state.phases who e.who
          (mv.next (held w.state.words mv.word)) Out not_me ∙ q.out;
      user = q.user;
    }
others_know w views roll who seat id act mv mine apart Pass v h =
    let w' = then_is w who act mv in let more = grown (moment_is w who act mv) w.history in
    let not_me : v.who ≢ who = λ e. apart (sym h.seat ∙ (ap roll.seat_of e ∙ mine)) in
    record {
      seat = h.seat;
      made = h.made;
      phase = get_or-set_other w.state.phases who v.who
          (mv.next (held w.state.words mv.word)) Out not_me ∙ h.phase;
      draws = draws_else w.state.draws who v.who act not_me ∙ h.draws;
      user = h.user;
      seen = starts_trans (world_openings w') (world_openings w) v.seen more h.seen;
      known = among_more (world_openings w) (world_openings w') v.known more h.known;
    }

-- of what the caller knows of, after an act of its own
still_known : {V : Type 0} (w : World) (act : Act) (mv : Move) (v : Shown V) (n : ℕ)
    (seen : List Opening)
    → StartsWith (world_openings w) v.seen
    → (let l = world_openings (then_is w v.who act mv) in
    ((i : ℕ) (o : Opening) → IsAt v.known i o → (j : ℕ) × IsAt l j o))
    → (i : ℕ) (o : Opening) → IsAt (moved v act mv n seen).known i o
    → (j : ℕ) × IsAt (world_openings (then_is w v.who act mv)) j o
still_known w (Draw r) mv v n seen starts known =
    let w' = then_is w v.who (Draw r) mv in
    among_first (world_openings w') v.seen
    (starts_trans (world_openings w') (world_openings w) v.seen
    (grown (moment_is w v.who (Draw r) mv) w.history) starts)
still_known w Step mv v n seen starts known = known
still_known w Leave mv v n seen starts known = known

module _ {X S V : Type 0} (M : Meaning X S V) (m : ℕ) (k : Plan X) where
  abbrev pub Table : Type 0
  Table = State (Option S) (Shown V)

  abbrev pub Rule : Table → Type 0
  Rule = Ruled M m k

  -- what the caller at a seat knows
  abbrev pub Mine : (s : Table) (r : Rule s) → ℕ → Shown V → Type 0
  Mine s r id v = IsCaller r.world r.content.views r.roll id v

  pub mine : (s : Table) (r : Rule s) (id : ℕ) (v : Shown V) → IsAt s.views id v → v.role ≡ Pass
      → Mine s r id v
  mine s r id v at is =
      subst (λ (z : Role). Knows r.world r.content.views r.roll id z v) is (r.each id v at)

  pub is_one : (s : Table) (r : Rule s) (id : ℕ) (v : Shown V) → Mine s r id v → v.who < k.callers
  is_one s r id v h = let a = h.made in let b = r.few_made in omega arith

  -- What an act owes: it is accepted, the list of openings begins with what is seen then, and the
  -- gate that it leaves is lawful
  pub record Owes (s : Table) (r : Rule s) (v : Shown V) (act : Act) (mv : Move)
      (seen : List Opening) : Type 0 where
    pub by : row_of r.world.state v.who act ≡ Ok (made r.world.state.words mv)
    pub has : HasWord r.world.state.words mv.word
    pub apt : IsApt mv.kind mv.word
    pub starts : StartsWith (world_openings (then_is r.world v.who act mv)) seen
    pub lawful : M.lawful k.usage r.content (gate (trace (then_is r.world v.who act mv).history))
    pub waits : is_waiting (mv.next (held r.world.state.words mv.word)) ≡ true
        → MayStillEnter M k.usage (then_is r.world v.who act mv) v.who v.user

  pub sizes_of : (s : Table) (r : Rule s) → Sized m r.world.state.words
  sizes_of s r = sizes m k.callers r.few_rooms r.few_callers r.world r.reached

  -- a word of the rooms in the table
  pub word_is : (s : Table) (r : Rule s) (mv : Move) → HasWord r.world.state.words mv.word
      → get_or s.words (place m mv.word) 0 ≡ held r.world.state.words mv.word
  word_is s r mv has =
      let z = sizes_of s r in let w = r.world.state.words in
      let long : length (listed w) ≡ 1 + 3 * m = length-listed m w z in
      let below = place_below m w z mv.word has in
      ap (λ (l : List ℕ). get_or l (place m mv.word) 0) r.words
      ∙ get_or_append_left (listed w) r.content.words 0 (place m mv.word) (omega arith)
      ∙ held_listed m w z mv.word has

  -- the words of the table after an act
  words_then : (s : Table) (r : Rule s) (v : Shown V) (act : Act) (mv : Move) (seen : List Opening)
      → Owes s r v act mv seen
      → set s.words (place m mv.word)
      (value_of mv.kind (held r.world.state.words mv.word)) ≡ listed
      (then_is r.world v.who act mv).state.words ++ r.content.words
  words_then s r v act mv seen o =
      let w = r.world.state.words in let z = sizes_of s r in let n : ℕ = held w mv.word in
      let long : length (listed w) ≡ 1 + 3 * m = length-listed m w z in
      let below = place_below m w z mv.word o.has in
      ap (λ (l : List ℕ). set l (place m mv.word) (value_of mv.kind n)) r.words
      ∙ set-append_left (listed w) r.content.words (place m mv.word) (value_of mv.kind n)
      (omega arith)
      ∙ ap (λ (l : List ℕ). l ++ r.content.words)
      (sym (touched_listed m w z mv.kind mv.word o.has o.apt))

  -- the seat's own view after its act
  mine_then : (s : Table) (r : Rule s) (id : ℕ) (v : Shown V) (act : Act) (mv : Move)
      (seen : List Opening) (kept : List ℕ) → Mine s r id v → Owes s r v act mv seen
      → IsCaller (then_is r.world v.who act mv) r.content.views r.roll id
      (record (moved v act mv (held r.world.state.words mv.word) seen) { kept = kept })
  mine_then s r id v act mv seen kept h o =
      let w = r.world in let w' = then_is w v.who act mv in
      let n : ℕ = held w.state.words mv.word in
      let one = is_one s r id v h in
      let lp : length w.state.phases ≡ k.callers =
      count m k.callers r.few_rooms r.few_callers w r.reached in
      let ld : length w.state.draws ≡ k.callers =
      drawers m k.callers r.few_rooms r.few_callers w r.reached in
      record {
        seat = h.seat;
        made = h.made;
        phase = get_or-set_same w.state.phases v.who (mv.next n) Out (omega arith);
        draws = draws_here w.state.draws v.who act (omega arith) ∙ ap (drawn_by act) h.draws;
        user = h.user;
        seen = o.starts;
        known = still_known w act mv v n seen h.seen
            (among_more (world_openings w) (world_openings w') v.known
            (grown (moment_is w v.who act mv) w.history) h.known);
      }

  -- whoever waits after an act may still enter
  waits_then : (s : Table) (r : Rule s) (id : ℕ) (v : Shown V) (act : Act) (mv : Move)
      (seen : List Opening) → Mine s r id v → Owes s r v act mv seen
      → (c : ℕ) (u : V) → IsAt r.content.views c u
      → is_waiting (phase_of (then_is r.world v.who act mv).state c) ≡ true
      → MayStillEnter M k.usage (then_is r.world v.who act mv) c u
  waits_then s r id v act mv seen h o c u at f =
      let w = r.world in let w' = then_is w v.who act mv in
      let n : ℕ = held w.state.words mv.word in
      let one = is_one s r id v h in
      let lp : length w.state.phases ≡ k.callers =
      count m k.callers r.few_rooms r.few_callers w r.reached in
      let now : phase_of w'.state v.who ≡ mv.next n =
      get_or-set_same w.state.phases v.who (mv.next n) Out (omega arith) in
      elim (cases_eq c v.who) [
        | inl same ↦ (
            let its : v.user ≡ u =
            some-injective v.user u
            (sym h.user ∙ ap (get_elem? r.content.views) (sym same) ∙ at) in
            let f' : is_waiting (mv.next n) ≡ true =
            ap is_waiting (sym now ∙ ap (phase_of w'.state) (sym same)) ∙ f in
            subst (λ (x : ℕ × V). MayStillEnter M k.usage w' x.0 x.1) (λ i. (sym same i, its i))
            (o.waits f'))
        | inr ne ↦ (
            let f' : is_waiting (phase_of w.state c) ≡ true =
            ap is_waiting (sym (get_or-set_other w.state.phases v.who c (mv.next n) Out ne))
            ∙ f in
            let old = r.waits c u at f' in
            let q : since c w'.history ≡ since c w.history =
            since_else v.who c (moment_is w v.who act mv) w.history refl ne in
            record { last = (let l = old.last in omega arith); may = old.may })
      ]

  -- the act leads to a state that the rule allows, which is the one after it
  pub acted_on : (s : Table) (r : Rule s) (id : ℕ) (v : Shown V) (act : Act) (mv : Move)
      (seen : List Opening) (kept : List ℕ) (cs : List (ℕ × Option S)) → IsAt s.views id v
      → v.role ≡ Pass → Owes s r v act mv seen
      → ((room turn : ℕ) → mv.next (held r.world.state.words mv.word) ≡ Exiting room turn
      → ShowsWords M k.usage kept r.content.words)
      → (after : Rule (stepped s (place m mv.word)
      (value_of mv.kind (held r.world.state.words mv.word)) id cs
      (record (moved v act mv (held r.world.state.words mv.word) seen) { kept = kept }) keeps))
      × (after.world ≡ happens r.world (v.who, act))
  acted_on s r id v act mv seen kept cs at is o shows =
      let h = mine s r id v at is in let w = r.world in let w' = then_is w v.who act mv in
      let n : ℕ = held w.state.words mv.word in
      let now : Shown V = record (moved v act mv n seen) { kept = kept } in (
        record {
          world = w';
          reached = one_more m k.callers r.few_rooms r.few_callers w r.reached v.who act
              (made w.state.words mv) o.by;
          content = r.content;
          words = words_then s r v act mv seen o;
          sized = r.sized;
          slots = r.slots;
          slotted = r.slotted;
          crowd = r.crowd;
          few_callers = r.few_callers;
          few_rooms = r.few_rooms;
          roll = r.roll;
          few_made = r.few_made;
          each = after_step (λ j d. Knows w' r.content.views r.roll j d.role d) s.views id now
              (subst (λ (x : Role). Knows w' r.content.views r.roll id x now) (sym is)
              (mine_then s r id v act mv seen kept h o))
              (λ j d apart e.
              others_know w r.content.views r.roll v.who id j act mv h.seat apart d.role d
              (r.each j d e));
          unmade = λ c late under.
              let u = r.unmade c late under in let l = h.made in
              let ne : c ≢ v.who = λ e. omega arith in
              record {
                out = get_or-set_other w.state.phases v.who c (mv.next n) Out ne
                    ∙ u.out;
                draws = draws_else w.state.draws v.who c act ne
                    ∙ u.draws;
                user = u.user;
              };
          kept = after_step (λ j d. ShowsKept M k.usage r.content.words d) s.views id now
              (λ _. shows) (λ j d _ e. r.kept j d e);
          lawful = o.lawful;
          past = λ c u e. let a = r.past c u e in
              let b = more_openings (moment_is w v.who act mv) w.history in omega arith;
          waits = waits_then s r id v act mv seen h o;
        },
        ap (carried w v.who act) (sym o.by),
      )
