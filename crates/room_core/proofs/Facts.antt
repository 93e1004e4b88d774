-- What the layers above rest on, of each state that is reached.
use Rattle.std.proofs.Common.{◌≡◌, ℕ, ◌+◌, ◌<◌, ◌≤◌, Bool, true, false, cond, List, [], ◌∷◌, length, get_or, Option, Some, None, refl, sym, ap, ◌∙◌, subst, inl, inr, arith, eqb, ltb, ◌^◌, Result, Ok, Err, ◌++◌}
use Rattle.std.proofs.lemmas.Bool.{cases_lt, cond-true, cond-false, ne_eqb, lt-ltb}
use Rattle.std.proofs.lemmas.List.{get_or_past}
use Rattle.room_core.specs.declared.acts.Act.{Act}
use Rattle.room_core.specs.declared.phases.Phase.{Phase}
use Rattle.room_core.specs.declared.phases.Phase.TheVariants.{Out, Counting, Admitting, Turning, Inside, Exiting, Peering, Scanning, Passing}
use Rattle.room_core.specs.declared.items.Item.{Item}
use Rattle.room_core.specs.declared.acts.Act.TheVariants.{Draw, Step, Leave}
use Rattle.room_core.specs.declared.items.Opening.{Opening}
use Rattle.room_core.specs.declared.items.Item.TheVariants.{Opened, Entered, Left, ExitBegun, ExitEnded}
use Rattle.room_core.specs.declared.acts.Refused.{Refused}
use Rattle.room_core.specs.declared.acts.Refused.TheVariants.{NoCaller, NoRoom, Spent}
use Rattle.room_core.specs.Words.{Words}
use Rattle.room_core.specs.Machine.{Row, row_of, phase_of, acting, made, made_if, drawing, drawing_from, or_stuck}
use Rattle.room_core.specs.Active.{turn_of, code_of}
use Rattle.room_core.specs.Trace.{is_exiting, is_closing, trace, last_opening, openings, all_opened, since, occupant}
use Rattle.room_core.specs.Runs.{World, carried, happens, start, Reached}
use Rattle.room_core.specs.Moves.{Move, move, drawing_move, leaving_move}
use Rattle.room_core.specs.Gate.{Shut, Held, Keyed, nobody, joined, without, is_there, inside, leaver, gate_by, gate}
use Rattle.room_core.proofs.Lists.{within}
use Rattle.room_core.proofs.Invariant.{ticket_of, room_of, is_keeper, phase, Admitted, Fits, room_inside}
use Rattle.room_core.proofs.Rows.{admitted_open, fits_at}
use Rattle.room_core.proofs.Due.{Named}
use Rattle.room_core.proofs.Marks.{Shut as Shut_, mark_at, MarkOf}
use Rattle.room_core.proofs.Bypass.{inside_due}
use Rattle.room_core.proofs.Sums.{wait_small, done_small, active_small}
use mathlib.Core.Option.{some}
use lib.ListN.{get_elem?}
use Rattle.room_core.proofs.Listed.{Sized}
use Rattle.room_core.proofs.Lasts.{lasts, Lasts}
use Rattle.room_core.proofs.Late.{LateAt}
use Rattle.room_core.proofs.Leavers.{LeaverAt}
use Rattle.room_core.proofs.Awake.{none_held}
use Rattle.room_core.proofs.Changes.{nobody_inside}
use Rattle.room_core.proofs.Reached.{Sound, run_sound, start_sound, run_push}

pub record IsHeld (t : List Item) (room turn to : ℕ) : Type 0 where
  pub opening : Opening
  pub is_last : last_opening t ≡ Some opening
  pub room_is : opening.room ≡ room
  pub turn_is : opening.turn ≡ turn
  pub to_is : opening.to ≡ to
  pub closing : is_closing t ≡ false

gate_at : (t : List Item) (o : Opening) (closing exiting : Bool) → last_opening t ≡ Some o
    → is_closing t ≡ closing → is_exiting t ≡ exiting
    → gate t ≡ gate_by (Some o) closing exiting (inside t) (leaver t)
gate_at t o closing exiting a b c =
    ap (λ (z : Option Opening). gate_by z (is_closing t) (is_exiting t) (inside t) (leaver t)) a
    ∙ ap (λ (z : Bool). gate_by (Some o) z (is_exiting t) (inside t) (leaver t)) b
    ∙ ap (λ (z : Bool). gate_by (Some o) closing z (inside t) (leaver t)) c

held_at : (t : List Item) (room turn to : ℕ) (ins : ℕ → Bool) (who : ℕ)
    → (h : IsHeld t room turn to)
    → gate_by (last_opening t) (is_closing t) (is_exiting t) ins who ≡ Held room turn ins
held_at t room turn to ins who h =
    ap (λ (z : Option Opening). gate_by z (is_closing t) (is_exiting t) ins who) h.is_last
    ∙ ap (λ (z : Bool). gate_by (Some h.opening) z (is_exiting t) ins who) h.closing
    ∙ ap (λ (z : ℕ). Held z h.opening.turn ins) h.room_is
    ∙ ap (λ (z : ℕ). Held room z ins) h.turn_is

pub gate_held : (t : List Item) (room turn to : ℕ) → IsHeld t room turn to
    → gate t ≡ Held room turn (inside t)
gate_held t room turn to h = held_at t room turn to (inside t) (leaver t) h

there_joined : (b : Bool) (r : ℕ) (o : Option ℕ)
    → is_there (cond b (Some r) o) ≡ cond b true (is_there o)
there_joined true r o = refl
there_joined false r o = refl

inside_entered : (c r : ℕ) (t : List Item) → inside (Entered c r ∷ t) ≡ joined (inside t) c
inside_entered c r t = λ i d. there_joined (eqb c d) r (occupant d t) i

-- a caller enters the held room
pub gate_entered : (t : List Item) (c r room turn to : ℕ) → IsHeld t room turn to
    → gate (Entered c r ∷ t) ≡ Held room turn (joined (inside t) c)
gate_entered t c r room turn to h =
    held_at t room turn to (inside (Entered c r ∷ t)) (leaver t) h
    ∙ ap (λ (z : ℕ → Bool). Held room turn z) (inside_entered c r t)

nobody_is : (t : List Item) → ((d : ℕ) → inside t d ≡ false) → inside t ≡ nobody
nobody_is t none = λ i d. none d i

-- a room opens
pub gate_opened : (t : List Item) (turn room from to : ℕ) → ((d : ℕ) → inside t d ≡ false)
    → gate (Opened turn room from to ∷ t) ≡ Held room turn nobody
gate_opened t turn room from to none = ap (λ (z : ℕ → Bool). Held room turn z) (nobody_is t none)

-- and its opener enters with it
pub gate_opened_in : (t : List Item) (turn room from to c r : ℕ) → ((d : ℕ) → inside t d ≡ false)
    → gate (Entered c r ∷ Opened turn room from to ∷ t) ≡ Held room turn (joined nobody c)
gate_opened_in t turn room from to c r none =
    ap (λ (z : ℕ → Bool). Held room turn z)
    (inside_entered c r t ∙ ap (λ (z : ℕ → Bool). joined z c) (nobody_is t none))

there_without : (b : Bool) (o : Option ℕ) → is_there (cond b None o) ≡ cond b false (is_there o)
there_without true o = refl
there_without false o = refl

pub inside_left : (c : ℕ) (t : List Item) → inside (Left c ∷ t) ≡ without (inside t) c
inside_left c t = λ i d. there_without (eqb c d) (occupant d t) i

-- an insider leaves
pub gate_left : (t : List Item) (c room turn to : ℕ) → IsHeld t room turn to
    → gate (Left c ∷ t) ≡ Held room turn (without (inside t) c)
gate_left t c room turn to h =
    held_at t room turn to (inside (Left c ∷ t)) c h
    ∙ ap (λ (z : ℕ → Bool). Held room turn z) (inside_left c t)

-- the last insider leaves, and has the key
pub gate_keyed : (t : List Item) (c q room turn to : ℕ) → IsHeld t room turn to
    → gate (ExitBegun q ∷ Left c ∷ t) ≡ Keyed room turn c
gate_keyed t c q room turn to h =
    ap (λ (z : Option Opening). gate_by z true true (inside (Left c ∷ t)) c) h.is_last
    ∙ ap (λ (z : ℕ). Keyed z h.opening.turn c) h.room_is ∙ ap (λ (z : ℕ). Keyed room z c) h.turn_is

-- the exit code ends
pub gate_ended : (t : List Item) (o : Opening) (q turn : ℕ) → last_opening t ≡ Some o
    → is_closing t ≡ true → o.turn ≡ turn → gate (ExitEnded q ∷ t) ≡ Shut turn
gate_ended t o q turn a b e =
    ap (λ (z : Option Opening). gate_by z (is_closing t) false (inside t) (leaver t)) a
    ∙ ap (λ (z : Bool). gate_by (Some o) z false (inside t) (leaver t)) b ∙ ap Shut e

-- the last opening is the last of all
at_end : {A : Type 0} (l : List A) (a : A) → get_elem? (l ++ a ∷ []) (length l) ≡ some a
at_end [] a = refl
at_end (x ∷ xs) a = at_end xs a

pub last_listed : (t : List Item) (o : Opening) → last_opening t ≡ Some o
    → (i : ℕ) × (get_elem? (all_opened t) i ≡ some o)
last_listed [] o e = absurd (cc)
last_listed (Opened turn r from to ∷ t) o e =
    let q : record { turn = turn; room = r; from = from; to = to } ≡ o = cc in (
      length (all_opened t),
      at_end (all_opened t) (record { turn = turn; room = r; from = from; to = to }) ∙ ap some q,
    )
last_listed (Entered c r ∷ t) o e = last_listed t o e
last_listed (Left c ∷ t) o e = last_listed t o e
last_listed (ExitBegun r ∷ t) o e = last_listed t o e
last_listed (ExitEnded r ∷ t) o e = last_listed t o e

not_there : (o : Option ℕ) → ((r : ℕ) → o ≡ Some r → ⊥) → is_there o ≡ false
not_there None h = refl
not_there (Some r) h = absurd (h r refl)

there : (o : Option ℕ) (r : ℕ) → o ≡ Some r → is_there o ≡ true
there o r e = ap is_there e

one_at_least : (t : List Item) (o : Opening) → last_opening t ≡ Some o → openings t ≡ 0 → ⊥
one_at_least [] o e z = cc
one_at_least (Opened turn r from to ∷ t) o e z = omega arith
one_at_least (Entered c r ∷ t) o e z = one_at_least t o e z
one_at_least (Left c ∷ t) o e z = one_at_least t o e z
one_at_least (ExitBegun r ∷ t) o e z = one_at_least t o e z
one_at_least (ExitEnded r ∷ t) o e z = one_at_least t o e z

pub shut_at : (t : List Item) → Shut_ (openings t) (is_closing t) (is_exiting t)
    → (o : Option Opening) → last_opening t ≡ o → Lasts t → gate t ≡ Shut (openings t)
shut_at t h None e k =
    let z = k.none e in
    ap (λ (x : Option Opening). gate_by x (is_closing t) (is_exiting t) (inside t) (leaver t)) e
    ∙ ap Shut (sym z.0)
shut_at t (inl z) (Some o) e k = let q = k.turn o e in absurd (one_at_least t o e z)
shut_at t (inr z) (Some o) e k = gate_at t o true false e z.0 z.1 ∙ ap Shut (k.turn o e)

pub record AdmittedTo (w : World) (c room ticket turn to : ℕ) : Type 0 where
  pub now : IsHeld (trace w.history) room turn to
  pub low : now.opening.from < ticket
  pub high : ticket ≤ to

not_keeper : true ≡ false → ⊥
not_keeper e = cc

-- a keeper while exit code runs is who left last
who_exits : (s : Words) (now : Bool) (q : Phase) (who d : ℕ) → Fits s now q → is_keeper q ≡ true
    → now ≡ true → LeaverAt who d q → who ≡ d
who_exits s now (Counting room ticket first turn) who d f k e l =
    absurd (not_keeper (sym e ∙ f.keeps.exit))
who_exits s now (Admitting room ticket first turn to) who d f k e l =
    absurd (not_keeper (sym e ∙ f.0.keeps.exit))
who_exits s now (Exiting room turn) who d f k e l = l
who_exits s now (Peering room turn j w) who d f k e l = absurd (not_keeper (sym e ∙ f.0.exit))
who_exits s now (Scanning room turn j) who d f k e l = absurd (not_keeper (sym e ∙ f.0.exit))
who_exits s now (Passing turn next) who d f k e l = absurd (not_keeper (sym e ∙ f.0.exit))
who_exits s now _ who d f k e l = absurd (cc)

pub record MayOpen (w : World) (room ticket turn to : ℕ) : Type 0 where
  pub before : openings (trace w.history) + 1 ≡ turn
  pub shut : gate (trace w.history) ≡ Shut (openings (trace w.history))
  pub empty : (d : ℕ) → inside (trace w.history) d ≡ false
  pub more : get_or w.state.words.grant room 0 < to
  pub low : 0 < ticket → get_or w.state.words.grant room 0 < ticket
  pub high : ticket ≤ to

module _ (m n : ℕ) (few : m ≤ 7) (crowd : n ≤ 64) (w : World) (reached : Reached m n w) where
  abbrev t : List Item
  t = trace w.history

  abbrev s : Words
  s = w.state.words

  abbrev ps : List Phase
  ps = w.state.phases

  -- every invariant of the core
  pub sound : Sound m n w
  sound =
      subst (Sound m n) reached.1 (run_sound m n reached.0 (start m n) crowd (start_sound m n few))

  pub sizes : Sized m s
  sizes =
      let a = sound in
      let i = a.good.inv in
      record {
        wait = a.more.due.rooms;
        grant = i.grants ∙ a.more.due.rooms;
        done = i.dones ∙ a.more.due.rooms;
      }

  pub count : length ps ≡ n
  count = let a = sound in a.sums.phases

  pub drawers : length w.state.draws ≡ n
  drawers = let a = sound in a.sums.makers

  pub wait_low : (r : ℕ) → get_or s.wait r 0 ≤ 2 ^ 54
  wait_low r = let a = sound in wait_small n s ps t w.state.draws crowd a.good.inv a.sums r

  pub done_low : (r : ℕ) → get_or s.done r 0 ≤ 2 ^ 54
  done_low r = let a = sound in done_small n s ps t w.state.draws crowd a.good.inv a.sums r

  pub active_low : s.active < 2 ^ 60
  active_low = let a = sound in active_small n s ps t w.state.draws crowd a.good.inv a.sums

  held_room : (r : ℕ) → get_or s.done r 0 < get_or s.grant r 0
      → IsHeld t r (turn_of s.active) (get_or s.grant r 0)
  held_room r lt =
      let a = sound in let o = a.more.marks.open_now r lt in let io = a.good.inv.open_room r lt in
      record { opening = o.here.opening; is_last = o.here.last_is; room_is = o.here.room_is; turn_is = o.turn_is; to_is = o.to_is; closing = io.close }

  admitted : (c room ticket to : ℕ) (p : Phase) → phase ps c ≡ p → room_of p ≡ room
      → ticket_of p ≡ ticket → Admitted s room ticket to
      → AdmittedTo w c room ticket (turn_of s.active) to
  admitted c room ticket to p e er et f = let a = sound in
      let er' : room_of (phase ps c) ≡ room =
      ap room_of e ∙ er in let et' : ticket_of (phase ps c) ≡ ticket = ap ticket_of e ∙ et in
      let some : 0 < ticket_of (phase ps c) = (let q = f.some in omega arith) in
      let gr : get_or s.grant (room_of (phase ps c)) 0 ≡ get_or s.grant room 0 =
      ap (λ (z : ℕ). get_or s.grant z 0) er' in
      let lt : get_or s.done room 0 < get_or s.grant room 0 =
      subst (λ (z : ℕ). get_or s.done z 0 < get_or s.grant z 0) er'
      (admitted_open s ps t c a.good.inv some (let q = f.granted in omega arith)) in
      let now : IsHeld t room (turn_of s.active) to =
      subst (IsHeld t room (turn_of s.active)) (sym f.to_is) (held_room room lt) in
      record { now = now; low = (let q = a.more.marks.tickets c now.opening some now.is_last (now.room_is ∙ sym er') in omega arith); high = omega (arith, f.granted, f.to_is) }

  -- who is inside is an insider of the gate
  pub insider : (c room ticket turn to : ℕ) (first : Option ℕ)
      → phase_of w.state c ≡ Inside room ticket first turn to
      → AdmittedTo w c room ticket turn to × (inside t c ≡ true)
  insider c room ticket turn to first e =
      let a = sound in
      let f : Fits s (is_exiting t) (Inside room ticket first turn to) =
      fits_at s ps t c (Inside room ticket first turn to) a.good.inv e in (
        subst (λ (z : ℕ). AdmittedTo w c room ticket z to) (sym f.1)
            (admitted c room ticket to (Inside room ticket first turn to) e refl refl f.0),
        there (occupant c t) room (a.good.inv.occupied c ∙ ap room_inside e),
      )

  -- who is to load the turn finds its room open, since after its draw
  pub turner : (c room ticket to : ℕ) (first : Option ℕ)
      → phase_of w.state c ≡ Turning room ticket first to
      → AdmittedTo w c room ticket (turn_of s.active) to × (since c w.history < turn_of s.active)
  turner c room ticket to first e =
      let a = sound in
      let f : Fits s (is_exiting t) (Turning room ticket first to) =
      fits_at s ps t c (Turning room ticket first to) a.good.inv e in
      let ad = admitted c room ticket to (Turning room ticket first to) e refl refl f in
      let q : LateAt s.grant (openings t) (since c w.history) (Turning room ticket first to) =
      subst (LateAt s.grant (openings t) (since c w.history)) e (a.late.each c) in
      let u = (lasts w.history a.more.lawful).turn ad.now.opening ad.now.is_last in
      (ad, (let v = q f.some f.granted in let x = ad.now.turn_is in omega arith))

  -- who is to store the grant finds the gate shut after the turn before
  pub opener : (c room ticket turn to : ℕ) (first : Option ℕ)
      → phase_of w.state c ≡ Admitting room ticket first turn to → MayOpen w room ticket turn to
  opener c room ticket turn to first e =
      let a = sound in
      let f : Fits s (is_exiting t) (Admitting room ticket first turn to) =
      fits_at s ps t c (Admitting room ticket first turn to) a.good.inv e in
      let mm : MarkOf s t (Admitting room ticket first turn to) = mark_at s ps t c _ a.more.marks e in
      record {
        before = mm.0 ∙ sym f.0.keeps.turn_is;
        shut = shut_at t mm.1 (last_opening t) refl (lasts w.history a.more.lawful);
        empty =
            λ d.
            not_there (occupant d t)
            (λ r o. nobody_inside s ps t a.good.inv f.0.keeps.shut d r o);
        more = f.1;
        low = f.0.late;
        high = f.2;
      }

  -- while somebody has the key nobody is inside
  pub empty_keyed : (c room turn : ℕ) → phase_of w.state c ≡ Exiting room turn → (d : ℕ)
      → inside t d ≡ false
  empty_keyed c room turn e d =
      let a = sound in
      let f : Fits s (is_exiting t) (Exiting room turn) =
      fits_at s ps t c (Exiting room turn) a.good.inv e in
      not_there (occupant d t) (λ r o. nobody_inside s ps t a.good.inv f.0.shut d r o)

  pub bypass : (c room ticket first turn to : ℕ)
      → phase_of w.state c ≡ Inside room ticket (Some first) turn to
      → (first ≤ turn) × (turn ≤ first + m)
  bypass c room ticket first turn to e =
      let a = sound in
      inside_due m s (is_exiting t) (phase_of w.state c) a.more.due.key (a.good.inv.each c)
      (a.more.due.each c) room ticket first turn to e

  -- an opening admitted up to its `to`
  pub granted_to : (i : ℕ) (o : Opening) → get_elem? (all_opened t) i ≡ some o
      → o.to ≤ get_or s.grant o.room 0
  granted_to i o at =
      let a = sound in
      let q = (lasts w.history a.more.lawful).each i o at in
      let g = a.more.marks.grants o.room in omega arith

  -- who has the key finds the gate keyed, and shuts it after the turn
  pub exiter : (c room turn q : ℕ) → phase_of w.state c ≡ Exiting room turn
      → (gate t ≡ Keyed room turn c) × (gate (ExitEnded q ∷ t) ≡ Shut turn) × (room < m) × (turn < 2 ^ 57)
  exiter c room turn q e =
      let a = sound in
      let f : Fits s (is_exiting t) (Exiting room turn) =
      fits_at s ps t c (Exiting room turn) a.good.inv e in
      let mm : MarkOf s t (Exiting room turn) = mark_at s ps t c _ a.more.marks e in
      let o =
      mm.1.opening in let turn_is : o.turn ≡ turn = (lasts w.history a.more.lawful).turn o
      mm.1.last_is
      ∙ mm.0 ∙ sym f.0.turn_is in
      let who : leaver t ≡ c = subst (LeaverAt (leaver t) c) e (a.leavers.each c) in let small = active_low in let code = a.more.due.code in (
        gate_at t o true true mm.1.last_is mm.2 mm.3
            ∙ ap (λ (z : ℕ). Keyed z o.turn (leaver t)) mm.1.room_is
            ∙ ap (λ (z : ℕ). Keyed room z (leaver t)) turn_is ∙ ap (λ (z : ℕ). Keyed room turn z) who,
        gate_ended t o q turn mm.1.last_is mm.2 turn_is,
        omega (arith, f.1, code),
        omega (arith, f.0.turn_is, small),
      )

  pub peerer : (c room turn k w' : ℕ) → phase_of w.state c ≡ Peering room turn k w' → k < m
  peerer c room turn k w' e = let a = sound in subst (Named m) e (a.more.due.named c)

  pub scanner : (c room turn k : ℕ) → phase_of w.state c ≡ Scanning room turn k → k < m
  scanner c room turn k e = let a = sound in subst (Named m) e (a.more.due.named c)

  pub inside_room : (c room ticket turn to : ℕ) (first : Option ℕ)
      → phase_of w.state c ≡ Inside room ticket first turn to → room < m
  inside_room c room ticket turn to first e =
      let a = sound in
      let f : Fits s (is_exiting t) (Inside room ticket first turn to) =
      fits_at s ps t c (Inside room ticket first turn to) a.good.inv e in
      let z = sizes in
      let q = within s.grant room (omega (arith, f.0.some, f.0.granted)) in
      omega (arith, z.grant, q)

  -- who is out is in no room
  pub outsider : (c : ℕ) → phase_of w.state c ≡ Out → inside t c ≡ false
  outsider c e = let a = sound in ap is_there (a.good.inv.occupied c ∙ ap room_inside e)

  -- while exit code runs, who left last is not out
  pub key_elsewhere : (c : ℕ) → phase_of w.state c ≡ Out → is_exiting t ≡ true → leaver t ≡ c → ⊥
  key_elsewhere c e exits same = let a = sound in elim a.awake.why [
    | inl z ↦ not_keeper (sym exits ∙ a.good.inv.idle z)
    | inr (inl o) ↦ not_keeper (sym exits ∙ (a.good.inv.open_room o.0 o.1).exit)
    | inr (inr k) ↦ (let who = who_exits s (is_exiting t) (phase ps k.0) (leaver t) k.0 (a.good.inv.each k.0) k.1 exits (a.leavers.each k.0) in
        not_keeper (sym k.1 ∙ (ap (λ (z : ℕ). is_keeper (phase ps z)) (sym who ∙ same) ∙ ap is_keeper e)))
  ]

  -- the turn of the key is the number of openings
  pub key_turn : (c room turn : ℕ) → phase_of w.state c ≡ Exiting room turn → turn ≡ openings t
  key_turn c room turn e =
      let a = sound in
      let f : Fits s (is_exiting t) (Exiting room turn) =
      fits_at s ps t c (Exiting room turn) a.good.inv e in
      let mm : MarkOf s t (Exiting room turn) = mark_at s ps t c _ a.more.marks e in
      f.0.turn_is ∙ sym mm.0

  -- where all are out the gate is shut
  pub all_out : ((c : ℕ) → c < n → phase_of w.state c ≡ Out) → gate t ≡ Shut (openings t)
  all_out outs' = let a = sound in let size : length ps ≡ n = count in
      let all : (d : ℕ) → phase ps d ≡ Out = λ d. elim (cases_lt d n) [
        | inl l ↦ outs' d l
        | inr ge ↦ get_or_past ps d Out (omega (arith, ge, size))
      ] in
      let idle : code_of s.active ≡ 0 = elim a.awake.why [
        | inl z ↦ z
        | inr (inl o) ↦ (let held = none_held ps o.0 all in absurd (omega (arith, o.1, held, a.good.inv.total o.0, a.good.inv.granted o.0)))
        | inr (inr k) ↦ absurd (not_keeper (sym k.1 ∙ ap is_keeper (all k.0)))
      ] in
      shut_at t (a.more.marks.idle idle).1 (last_opening t) refl (lasts w.history a.more.lawful)

  -- the held turn is the number of openings
  pub held_turn : (room turn to : ℕ) → IsHeld t room turn to → turn ≡ openings t
  held_turn room turn to h =
      let a = sound in sym h.turn_is ∙ (lasts w.history a.more.lawful).turn h.opening h.is_last

  -- one act more
  pub one_more : (c : ℕ) (act : Act) (row : Row) → row_of w.state c act ≡ Ok row
      → Reached m n (carried w c act (Ok row))
  one_more c act row e = (
    reached.0 ++ (c, act) ∷ [],
    run_push reached.0 (c, act) (start m n) ∙ ap (λ z. happens z (c, act)) reached.1
        ∙ ap (carried w c act) e,
  )

  -- a caller of the set-up that steps
  stepping_row : (c : ℕ) (act : Act) (x : Result Row Refused) → c < n
      → acting w.state c (phase_of w.state c) act ≡ x → row_of w.state c act ≡ x
  stepping_row c act x h e =
      let q = count in
      let lt : c < length ps = omega arith in
      cond-true (ltb c (length ps)) (acting w.state c (phase_of w.state c) act) (Err NoCaller)
      (lt-ltb c (length ps) lt)
      ∙ e

  pub step_row : (c : ℕ) (p : Phase) (v : Move) → c < n → phase_of w.state c ≡ p
      → move m c p ≡ Some v → row_of w.state c Step ≡ Ok (made s v)
  step_row c p v h at by =
      stepping_row c Step (Ok (made s v)) h
      (ap (λ (z : Phase). acting w.state c z Step) at
      ∙ ap (λ (z : ℕ). or_stuck (made_if s (move z c p))) (sizes.wait)
      ∙ ap (λ (z : Option Move). or_stuck (made_if s z)) by)

  pub draw_row : (c r : ℕ) → c < n → r < m → phase_of w.state c ≡ Out
      → get_or w.state.draws c 0 < 2 ^ 48 → row_of w.state c (Draw r) ≡ Ok (made s (drawing_move r))
  draw_row c r h below at more = stepping_row c (Draw r) (Ok (made s (drawing_move r))) h
      (ap (λ (z : Phase). acting w.state c z (Draw r)) at ∙ (let q = sizes.wait in let lt : r < length s.wait = omega arith in cond-true (ltb r (length s.wait)) (drawing_from w.state c r Out) (Err NoRoom) (lt-ltb r (length s.wait) lt))
      ∙ cond-false (eqb (get_or w.state.draws c 0) (2 ^ 48)) (Err Spent) (Ok (drawing s r)) (ne_eqb (get_or w.state.draws c 0) (2 ^ 48) (λ q. omega arith)))

  pub leave_row : (c room ticket turn to : ℕ) (first : Option ℕ) → c < n
      → phase_of w.state c ≡ Inside room ticket first turn to
      → row_of w.state c Leave ≡ Ok (made s (leaving_move c room turn to))
  leave_row c room ticket turn to first h at =
      stepping_row c Leave (Ok (made s (leaving_move c room turn to))) h
      (ap (λ (z : Phase). acting w.state c z Leave) at)
