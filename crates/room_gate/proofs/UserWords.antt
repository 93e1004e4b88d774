-- The rooms allow the steps on user words that their callers may take.
use Rattle.std.proofs.Common.{◌≡◌, ℕ, ◌+◌, ◌-◌, ◌%◌, ◌^◌, ◌<◌, ◌≤◌, List, Option, Some, Some, None, refl, sym, ap, subst, ◌∙◌, arith, false, length, get_or, set}
use Rattle.atomic_table.specs.Table.{Allows}
use Rattle.room_rule.specs.Use.{Own, own, Meaning, ShowsWords, user_place}
use Rattle.room_rule.specs.Laws.{Laws}
use Rattle.room_rule.specs.Rule.{Ruled}
use Rattle.room_rule.specs.View.{used, keyed}
use Rattle.room_rule.specs.Told.{Seated, held_in, Carries}
use Rattle.room_rule.specs.declared.rule.Plan.{Plan}
use Rattle.room_rule.proofs.Events.{allows_no_event}
use Rattle.room_rule.proofs.UserSteps.{steps, exits, touches}
use Rattle.room_rule.proofs.Made.{step_made, exit_made, touch_made}
use Rattle.room_rule.specs.Steps.{StepMade, ExitMade, TouchMade}
use Rattle.room_gate.specs.Shows.{Site, Caller, Insider, KeyHolder}
use Rattle.room_gate.specs.PassModel.{IsOut, caller_of}
use Rattle.room_gate.specs.InsideModel.{IsInside, insider_of}
use Rattle.room_gate.specs.KeyModel.{IsKey, holder_of}
use Rattle.room_gate.specs.RoomsModel.{IsSetUp, site_of}
use Rattle.room_gate.specs.Stepping.{MayStep, MayExit, MayTouch, HasStepped, Permits, own_of, own_at, InsideAt, ExitAt, TouchAt, stepped_to, touched_to}
use Rattle.room_core.specs.declared.phases.Phase.TheVariants.{Inside, Exiting}
use Rattle.room_gate.specs.declared.rooms.Rooms.TheInside as rooms
use Rattle.room_gate.specs.declared.passes.Pass.TheInside as passes
use Rattle.room_gate.specs.declared.inside.Inside.TheInside as stays
use Rattle.room_gate.specs.declared.keys.Key.TheInside as keys

-- a number that is taken from another by an add that wraps
pub taken : (n by : ℕ) → n < 2 ^ 64 → by ≤ n → (n + (2 ^ 64 - by)) % 2 ^ 64 ≡ n - by
taken n by small low =
    let is : n + (2 ^ 64 - by) ≡ n - by + 2 ^ 64 = omega arith in
    omega arith

same_inside : (a b c d e f g h : ℕ) (o p : Option ℕ) → Inside a b o c d ≡ Inside e f p g h
    → (a ≡ e) × (c ≡ g)
same_inside a b c d e f g h o p same = (cc, cc)

same_exiting : (a b c d : ℕ) → Exiting a b ≡ Exiting c d → (a ≡ c) × (b ≡ d)
same_exiting a b c d same = (cc, cc)

module _ {X S V : Type 0} (M : Meaning X S V) (m : ℕ) where
  -- what the rooms permit, their table allows at the place of the word
  pub allowed : (r : rooms.Inside X V S) → IsSetUp m M r → (site : Site X) → site_of r ≡ site
      → (slots id : ℕ) (me : Seated S V) (word at : ℕ) → at ≡ user_place m word
      → (change : ℕ → ℕ) (then : ℕ → Seated S V → Type 0)
      → Permits M m site me word change then
      → Allows (Ruled M m r.table.shared.key) slots id me at change then
  allowed r is site view slots id me word at place change then may =
      subst (λ (k : Plan X). Allows (Ruled M m k) slots id me at change then) (sym is.key)
      (allows_no_event M m r.plan slots id me at (user_place m word) place change then
      (subst (λ (s : Site X). Permits M m s me word change then) (sym view) may slots id))

  module _ (laws : Laws M) (site : Site X) (word : ℕ) (there : word < M.words site.usage)
      (then : Own S V → ℕ → ℕ → Own S V → Type 0) where
    -- a step of an insider
    pub steps_of : (i : stays.Inside X V S) → IsInside m M i → (now : Insider S V) → insider_of i ≡ now
        → (change plain : ℕ → ℕ) (fits : ℕ → Type 0) (tells : ℕ → Seated S V → Type 0)
        → MayStep M site.usage now word plain fits then
        → ((n : ℕ) → n < 2 ^ 64 → fits n → change n ≡ plain n)
        → ((n : ℕ) (u : V) (carried : List (ℕ × Option S)) → Carries (M.keeps u) carried
        → then (own_at i.seat.me) n (plain n) (own u (held_in carried))
        → InsideAt M site.usage word then i.seat.me n (plain n) (used i.seat.me.0 u, carried)
        → tells n (used i.seat.me.0 u, carried))
        → Permits M m site i.seat.me word change tells
    steps_of i is now view change plain fits tells may same told slots id =
        let asked : MayStep M site.usage (insider_of i) word plain fits then =
        subst (λ (z : Insider S V). MayStep M site.usage z word plain fits then) (sym view) may in
        steps M m _ laws slots id i.seat.me i.room i.ticket i.turn i.to word (Some i.first)
        change plain fits
        (λ before old value after. then before old value after
        × StepMade M site.usage i.seat.me.0.who word i.room i.turn before old value after) tells
        is.of.role is.phase there is.carries
        (step_made M site.usage i.seat.me.0.who i.seat.me.0.user word plain then i.room i.turn
        (held_in i.seat.me.1) fits
        (subst (λ (z : Insider S V). MayStep M site.usage z word plain fits then)
        (λ j. record (insider_of i) {
          caller = record (insider_of i).caller { who = sym is.of.who j };
          opening = record (insider_of i).opening { room = is.room j; turn = is.turn j };
        }) asked)) same
        (λ n u carried has t. told n u carried has t.0 (λ room ticket turn to first at.
        let e = same_inside i.room i.ticket i.turn i.to room ticket turn to (Some i.first) first
        (sym is.phase ∙ at) in
        subst (λ (z : ℕ × ℕ). StepMade M site.usage i.seat.me.0.who word z.0 z.1 (own_at i.seat.me) n
        (plain n) (own u (held_in carried))) (λ j. (e.0 j, e.1 j)) t.1))

    -- a step that tells the seat what it comes to
    pub steps_to : (i : stays.Inside X V S) → IsInside m M i → (now : Insider S V) → insider_of i ≡ now
        → (change plain : ℕ → ℕ) (fits : ℕ → Type 0) → MayStep M site.usage now word plain fits then
        → ((n : ℕ) → n < 2 ^ 64 → fits n → change n ≡ plain n)
        → Permits M m site i.seat.me word change (stepped_to M site.usage word then plain i.seat.me)
    steps_to i is now view change plain fits may same =
        steps_of i is now view change plain fits (stepped_to M site.usage word then plain i.seat.me) may same
        (λ n u carried has t made. (refl, has, t, made))

    -- what a store tells the seat, it tells who shows that it is so
    pub has_stored : (i : stays.Inside X V S) → IsInside m M i → (now : Insider S V)
        → insider_of i ≡ now → (value : ℕ) (me' : Seated S V) (after : Insider S V)
        → own_at me' ≡ own_of after
        → ((old : ℕ) × then (own_at i.seat.me) old value (own_at me')
        × InsideAt M site.usage word then i.seat.me old value me')
        → (old : ℕ) × then (own_of now) old value (own_of after)
        × HasStepped M site.usage now word old value after
    has_stored i is now view value me' after same t =
        let at_seat = t.2 i.room i.ticket i.turn i.to (Some i.first) is.phase in
        let own_now : own_at i.seat.me ≡ own_of now = ap (λ (z : Insider S V). own_of z) view in (
          t.0,
          subst (λ (z : Own S V × Own S V). then z.0 t.0 value z.1) (λ j. (own_now j, same j)) t.1,
          subst (λ (z : Insider S V). HasStepped M site.usage z word t.0 value after) view
              (subst (λ (z : (ℕ × ℕ) × (ℕ × Own S V)). StepMade M site.usage z.1.0 word z.0.0 z.0.1
              (own_at i.seat.me) t.0 value z.1.1)
              (λ j. ((sym is.room j, sym is.turn j), (is.of.who j, same j))) at_seat),
        )

    -- a step of the key's holder, after which it shows `kept` of the number found
    pub exits_of : (k : keys.Inside X V S) → IsKey m k → (now : KeyHolder V) → holder_of k ≡ now
        → (change plain : ℕ → ℕ) (kept : ℕ → List ℕ) (tells : ℕ → Seated S V → Type 0)
        → MayExit M site.usage now word plain then
        → ((n : ℕ) → n < 2 ^ 64 → change n ≡ plain n)
        → ((words : List ℕ) → length words ≡ M.words site.usage
        → ShowsWords M site.usage k.seat.me.0.kept words
        → ShowsWords M site.usage (kept (get_or words word 0))
        (set words word (plain (get_or words word 0))))
        → ((n : ℕ) (u : V) → (M.is_touch site.usage word ≡ false
        → n ≡ get_or k.seat.me.0.kept word 0) → then (own k.seat.me.0.user None) n (plain n) (own u None)
        → ExitAt M site.usage word then k.seat.me n (plain n) (keyed k.seat.me.0 u (kept n), k.seat.me.1)
        → tells n (keyed k.seat.me.0 u (kept n), k.seat.me.1))
        → Permits M m site k.seat.me word change tells
    exits_of k is now view change plain kept tells may same keeps told slots id =
        let asked : MayExit M site.usage (holder_of k) word plain then =
        subst (λ (z : KeyHolder V). MayExit M site.usage z word plain then) (sym view) may in
        exits M m _ laws slots id k.seat.me k.room k.turn word change plain kept
        (λ before old value after. then before old value after
        × ExitMade M site.usage k.seat.me.0.who word k.room k.turn k.seat.me.0.kept before old value after)
        tells is.of.role is.phase there
        (exit_made M site.usage k.seat.me.0.who k.seat.me.0.user word plain then k.room k.turn
        k.seat.me.0.kept
        (subst (λ (z : KeyHolder V). MayExit M site.usage z word plain then)
        (λ j. record (holder_of k) {
          caller = record (holder_of k).caller { who = sym is.of.who j };
          opening = record (holder_of k).opening { room = is.room j; turn = is.turn j };
        }) asked)) same keeps
        (λ n u shown _ t. told n u shown t.0 (λ room turn at.
        let e = same_exiting k.room k.turn room turn (sym is.phase ∙ at) in
        subst (λ (z : ℕ × ℕ). ExitMade M site.usage k.seat.me.0.who word z.0 z.1 k.seat.me.0.kept
        (own k.seat.me.0.user None) n (plain n) (own u None)) (λ j. (e.0 j, e.1 j)) t.1))

    -- a touch
    pub touches_of : (p : passes.Inside X V S) → IsOut p → (now : Caller V) → caller_of p ≡ now
        → (change plain : ℕ → ℕ) (fits : ℕ → Type 0) (tells : ℕ → Seated S V → Type 0)
        → MayTouch M site.usage now word plain fits then
        → ((n : ℕ) → n < 2 ^ 64 → fits n → change n ≡ plain n)
        → ((n : ℕ) (u : V) → then (own p.seat.me.0.user None) n (plain n) (own u None)
        → TouchAt M site.usage word then p.seat.me n (plain n) (used p.seat.me.0 u, p.seat.me.1)
        → tells n (used p.seat.me.0 u, p.seat.me.1))
        → Permits M m site p.seat.me word change tells
    touches_of p is now view change plain fits tells may same told slots id =
        let asked : MayTouch M site.usage (caller_of p) word plain fits then =
        subst (λ (z : Caller V). MayTouch M site.usage z word plain fits then) (sym view) may in
        touches M m _ laws slots id p.seat.me word change plain fits
        (λ before old value after. then before old value after
        × TouchMade M site.usage p.seat.me.0.who word before old value after) tells is.of.role is.phase
        there
        (touch_made M site.usage p.seat.me.0.who p.seat.me.0.user word plain then fits
        (subst (λ (z : Caller V). MayTouch M site.usage z word plain fits then)
        (λ j. record (caller_of p) { who = sym is.of.who j }) asked)) same
        (λ n u t. told n u t.0 t.1)

    -- a touch that tells the seat what it comes to
    pub touches_to : (p : passes.Inside X V S) → IsOut p → (now : Caller V) → caller_of p ≡ now
        → (change plain : ℕ → ℕ) (fits : ℕ → Type 0) → MayTouch M site.usage now word plain fits then
        → ((n : ℕ) → n < 2 ^ 64 → fits n → change n ≡ plain n)
        → Permits M m site p.seat.me word change (touched_to M site.usage word then plain p.seat.me)
    touches_to p is now view change plain fits may same =
        touches_of p is now view change plain fits (touched_to M site.usage word then plain p.seat.me) may same
        (λ n u t made. (refl, t, made))
