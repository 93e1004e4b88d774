-- The opening that lets a ticket in comes within a round of its caller's first look.
use Rattle.std.proofs.Common.{◌≡◌, ℕ, ◌+◌, ◌<◌, ◌≤◌, Bool, false, cond, List, [], ◌∷◌, ◌++◌, reverse, Option, Some, None, refl, sym, ap, ◌∙◌, subst, inl, inr, ◌⊎◌, arith, eqb, ◌&&◌, ◌||◌, ◌-◌, min, ltb, true}
use Rattle.std.specs.Prelude.{Contains, count_by}
use Rattle.std.proofs.lemmas.List.{reverse-reverse}
use Rattle.std.proofs.lemmas.List.Elements.{Contains-push, Contains-push_cases, Contains-append_left}
use Rattle.std.proofs.lemmas.Bool.{cond-true, cond-false, cond_both, eq-eqb, cases_Bool, and_cases, or_parts, eqb-true, false_from_ne_true, and_parts, ltb-true}
use Rattle.room_core.specs.declared.acts.Act.{Act}
use Rattle.room_core.specs.declared.acts.Act.TheVariants.{Draw, Step, Leave}
use Rattle.room_core.specs.declared.words.Touch.{Touch}
use Rattle.room_core.specs.declared.words.Touch.TheVariants.{Load}
use Rattle.room_core.specs.declared.words.Word.TheVariants.{Active}
use Rattle.room_core.specs.declared.items.Item.{Item}
use Rattle.room_core.specs.declared.items.Item.TheVariants.{Opened, Entered, Left, ExitBegun, ExitEnded}
use Rattle.room_core.specs.declared.items.Opening.{Opening}
use Rattle.room_core.specs.Runs.{Moment}
use Rattle.room_core.specs.Trace.{trace, onto, last_opening, all_opened, first_by, openings}
use Rattle.room_core.specs.Order.{trace_of}
use Rattle.room_core.specs.Openings.{opened, Admits}
use Rattle.room_core.specs.ExitOnce.{item_of}
use Rattle.room_core.specs.Admission.{is_draw, drawn}
use Rattle.room_core.specs.Bypass.{loads_active, is_look_of, is_between, FirstLook, IsPrompt}
use Rattle.room_core.proofs.Backward.{draws, draw_by, last_draw, first_in, last_to, LawfulAt, LawfulBack, Pairs, Prompt, SeesItsTurn, UsesUp, OnlyLooks, PromptBack}
use Rattle.room_core.proofs.Order.{split_back_at, count-cons, count-reverse, trace_of-reverse, all_opened-reverse, count-push}
use Rattle.room_core.proofs.Admitting.{OpensBack, opens_back, to_low, one_admits, lawful_suffix, draws-reverse}

-- the moment of an opening
opening_event : (o : Opening) (t : List Item) (one two : Option Item) → Pairs one two t
    → Contains (all_opened (onto two (onto one t))) o
    → (one ≡ Some (item_of o)) ⊎ Contains (all_opened t) o
opening_event o t (Some (Opened turn r from to)) None p h =
    elim
    (Contains-push_cases (all_opened t) (record { turn = turn; room = r; from = from; to = to }) o
    h) [ inl old ↦ inr old | inr new ↦ inl (ap (λ (z : Opening). Some (item_of z)) new) ]
opening_event o t (Some (Opened turn r from to)) (Some (Entered c q)) p h =
    elim
    (Contains-push_cases (all_opened t) (record { turn = turn; room = r; from = from; to = to }) o
    h) [ inl old ↦ inr old | inr new ↦ inl (ap (λ (z : Opening). Some (item_of z)) new) ]
opening_event o t None None p h = inr h
opening_event o t (Some (Entered c r)) None p h = inr h
opening_event o t (Some (Left c)) None p h = inr h
opening_event o t (Some (ExitBegun r)) None p h = inr h
opening_event o t (Some (ExitEnded r)) None p h = inr h
opening_event o t (Some (Left c)) (Some (ExitBegun r)) p h = inr h
opening_event o t one two p h = absurd p

opening_moment : (o : Opening) (h : List Moment) → LawfulBack h → Contains (all_opened (trace h)) o
    → (later : List Moment) × (m : Moment) × (before : List Moment) × (h ≡ later ++ m ∷ before) ×
    (m.event.one ≡ Some (item_of o))
opening_moment o [] k there = absurd (omega (arith, there.1))
opening_moment o (m ∷ h) k there = elim (opening_event o (trace h) m.event.one m.event.two k.3 there) [
  | inl here ↦ ([], m, h, refl, here)
  | inr old ↦ (let x = opening_moment o h k.2 old in (m ∷ x.0, x.1, x.2, ap (λ z. m ∷ z) x.3, x.4))
]

opened_onto : (i : Option Item) (t : List Item) (o : Opening) → Contains (all_opened t) o
    → Contains (all_opened (onto i t)) o
opened_onto None t o h = h
opened_onto (Some (Opened turn r from to)) t o h =
    Contains-append_left (all_opened t)
    (record { turn = turn; room = r; from = from; to = to } ∷ []) o h
opened_onto (Some (Entered c r)) t o h = h
opened_onto (Some (Left c)) t o h = h
opened_onto (Some (ExitBegun r)) t o h = h
opened_onto (Some (ExitEnded r)) t o h = h

opened_since : (later : List Moment) (h : List Moment) (o : Opening)
    → Contains (all_opened (trace h)) o → Contains (all_opened (trace (later ++ h))) o
opened_since [] h o there = there
opened_since (m ∷ later) h o there =
    opened_onto m.event.two (onto m.event.one (trace (later ++ h))) o
    (opened_onto m.event.one (trace (later ++ h)) o (opened_since later h o there))

opened_here : (m : Moment) (h : List Moment) (o : Opening) → m.event.one ≡ Some (item_of o)
    → Contains (all_opened (trace (m ∷ h))) o
opened_here m h o e =
    opened_onto m.event.two (onto m.event.one (trace h)) o
    (subst (λ z. Contains (all_opened (onto z (trace h))) o) (sym e)
    (Contains-push (all_opened (trace h)) o))

last_listed : (t : List Item) (o : Opening) → last_opening t ≡ Some o → Contains (all_opened t) o
last_listed [] o e = absurd (cc)
last_listed (Opened turn r from to ∷ t) o e =
    let same : record { turn = turn; room = r; from = from; to = to } ≡ o = cc in
    subst
    (λ z. Contains (all_opened t ++ record { turn = turn; room = r; from = from; to = to } ∷ []) z)
    same (Contains-push (all_opened t) (record { turn = turn; room = r; from = from; to = to }))
last_listed (Entered c r ∷ t) o e = last_listed t o e
last_listed (Left c ∷ t) o e = last_listed t o e
last_listed (ExitBegun r ∷ t) o e = last_listed t o e
last_listed (ExitEnded r ∷ t) o e = last_listed t o e

-- two places of a list
places : {A : Type 0} (xs : List A) (a : A) (ys us : List A) (b : A) (vs : List A)
    → xs ++ a ∷ ys ≡ us ++ b ∷ vs
    → (a ≡ b) ⊎ (((mid : List A) × (vs ≡ mid ++ a ∷ ys)) ⊎ ((mid : List A) × (ys ≡ mid ++ b ∷ vs)))
places [] a ys [] b vs e = inl (cc)
places [] a ys (u ∷ us) b vs e = inr (inr (us, cc))
places (x ∷ xs) a ys [] b vs e = inr (inl (xs, cc))
places (x ∷ xs) a ys (u ∷ us) b vs e = places xs a ys us b vs (cc)

prompt_suffix : (rooms : ℕ) (s h : List Moment) → PromptBack rooms (s ++ h) → PromptBack rooms h
prompt_suffix rooms [] h k = k
prompt_suffix rooms (m ∷ s) h k = prompt_suffix rooms s h k.4

-- what is let in does not shrink
last_to_item : (r : ℕ) (i : Item) (t : List Item) → OpensBack (i ∷ t)
    → last_to r t ≤ last_to r (i ∷ t)
last_to_item r (Opened turn q from to) t k =
    cond_both (eqb q r) to (last_to r t) (λ z. last_to r t ≤ z)
    (λ e.
    let same : q ≡ r = eqb-true q r e in
    omega (arith, ap (λ (z : ℕ). last_to z t) same, k.0.1, k.0.2)) (λ _. omega arith)
last_to_item r (Entered c q) t k = omega arith
last_to_item r (Left c) t k = omega arith
last_to_item r (ExitBegun q) t k = omega arith
last_to_item r (ExitEnded q) t k = omega arith

last_to_onto : (r : ℕ) (i : Option Item) (t : List Item) → OpensBack (onto i t)
    → (last_to r t ≤ last_to r (onto i t)) × OpensBack t
last_to_onto r None t k = (omega arith, k)
last_to_onto r (Some i) t k = (last_to_item r i t k, k.1)

last_to_moment : (r : ℕ) (m : Moment) (h : List Moment) → LawfulBack (m ∷ h)
    → last_to r (trace h) ≤ last_to r (trace (m ∷ h))
last_to_moment r m h k =
    let two = last_to_onto r m.event.two (onto m.event.one (trace h)) (opens_back (m ∷ h) k) in
    let one = last_to_onto r m.event.one (trace h) two.1 in
    omega (arith, two.0, one.0)

-- a caller that neither draws nor looks
draw_by_none : (a : Act) (h : List Moment) (old : Option (ℕ × ℕ)) → is_draw a ≡ false
    → draw_by a h old ≡ old
draw_by_none (Draw r) h old e = absurd (cc)
draw_by_none Step h old e = refl
draw_by_none Leave h old e = refl

first_by_none : (a : Act) (touch : Touch) (old : Option ℕ) → is_draw a ≡ false
    → loads_active touch ≡ false → first_by a touch old ≡ old
first_by_none (Draw r) touch old e n = absurd (cc)
first_by_none Leave touch old e n = refl
first_by_none Step (Load Active word) old e n = absurd (cc)
first_by_none Step touch old e n = refl

first_by_seen : (a : Act) (touch : Touch) (f : ℕ) → is_draw a ≡ false
    → first_by a touch (Some f) ≡ Some f
first_by_seen (Draw r) touch f e = absurd (cc)
first_by_seen Leave touch f e = refl
first_by_seen Step (Load Active word) f e = refl
first_by_seen Step touch f e = refl

skip_draw : (c : ℕ) (m : Moment) (h : List Moment) → is_draw m.act ≡ false
    → last_draw c (m ∷ h) ≡ last_draw c h
skip_draw c m h e =
    cond_both (eqb m.caller c) (draw_by m.act h (last_draw c h)) (last_draw c h)
    (λ z. z ≡ last_draw c h) (λ _. draw_by_none m.act h (last_draw c h) e) (λ _. refl)

-- between the draw and the first look
quiet : (c room : ℕ) (mid h : List Moment) (d : Moment) → d.caller ≡ c → d.act ≡ Draw room
    → count_by (is_look_of c) mid ≡ 0
    → (last_draw c (mid ++ d ∷ h) ≡ Some (room, draws room h + 1)) ×
    (first_in c (mid ++ d ∷ h) ≡ None)
quiet c room [] h d own draws' none = (
  cond-true (eqb d.caller c) (draw_by d.act h (last_draw c h)) (last_draw c h)
      (eq-eqb d.caller c own)
      ∙ ap (λ a. draw_by a h (last_draw c h)) draws',
  cond-true (eqb d.caller c) (first_by d.act d.event.touch (first_in c h)) (first_in c h)
      (eq-eqb d.caller c own)
      ∙ ap (λ a. first_by a d.event.touch (first_in c h)) draws',
)
quiet c room (m ∷ mid) h d own draws' none =
    let rest =
    quiet c room mid h d own draws' (omega (arith, count-cons (is_look_of c) m mid, none)) in
    let test : is_look_of c m ≡ false =
    false_from_ne_true (is_look_of c m)
    (λ y.
    omega (
      arith,
      count-cons (is_look_of c) m mid,
      none,
      ap (λ (b : Bool). cond {A = ℕ} b 1 0) y,
    )) in
    elim (and_cases (eqb m.caller c) (is_draw m.act || loads_active m.event.touch) test) [
      | inl other ↦ (
        cond-false (eqb m.caller c) (draw_by m.act (mid ++ d ∷ h) (last_draw c (mid ++ d ∷ h)))
            (last_draw c (mid ++ d ∷ h)) other
            ∙ rest.0,
        cond-false (eqb m.caller c) (first_by m.act m.event.touch (first_in c (mid ++ d ∷ h)))
            (first_in c (mid ++ d ∷ h)) other
            ∙ rest.1,
      )
      | inr neither ↦ (let parts = or_parts (is_draw m.act) (loads_active m.event.touch) neither in (
        skip_draw c m (mid ++ d ∷ h) parts.0 ∙ rest.0,
        cond_both (eqb m.caller c) (first_by m.act m.event.touch (first_in c (mid ++ d ∷ h)))
            (first_in c (mid ++ d ∷ h)) (λ z. z ≡ None)
            (λ _.
            first_by_none m.act m.event.touch (first_in c (mid ++ d ∷ h)) parts.0 parts.1 ∙ rest.1)
            (λ _. rest.1),
      ))
    ]

-- from the first look to an opening that lets the ticket in, the caller draws no other
still_holds : (c room ticket f : ℕ) (h : List Moment) (m : Moment) (a : Act) → m.act ≡ a
    → UsesUp m.caller h a → last_to room (trace h) < ticket → last_draw c h ≡ Some (room, ticket)
    → first_in c h ≡ Some f
    → (last_draw c (m ∷ h) ≡ Some (room, ticket)) × (first_in c (m ∷ h) ≡ Some f)
still_holds c room ticket f h m (Draw q) ea used low ed ef = elim (cases_Bool (eqb m.caller c)) [
  | inl own ↦ absurd (omega (arith, low, used room ticket (ap (λ (z : ℕ). last_draw z h) (eqb-true m.caller c own) ∙ ed)))
  | inr other ↦ (
    cond-false (eqb m.caller c) (draw_by m.act h (last_draw c h)) (last_draw c h) other ∙ ed,
    cond-false (eqb m.caller c) (first_by m.act m.event.touch (first_in c h)) (first_in c h) other
        ∙ ef,
  )
]
still_holds c room ticket f h m a ea used low ed ef = (
  skip_draw c m h (ap is_draw ea) ∙ ed,
  cond_both (eqb m.caller c) (first_by m.act m.event.touch (first_in c h)) (first_in c h)
      (λ z. z ≡ Some f)
      (λ _.
      ap (λ z. first_by m.act m.event.touch z) ef
      ∙ first_by_seen m.act m.event.touch f (ap is_draw ea)) (λ _. ef),
)

after_look : (rooms c room ticket f : ℕ) (mid h : List Moment) → LawfulBack (mid ++ h)
    → PromptBack rooms (mid ++ h) → last_to room (trace (mid ++ h)) < ticket
    → last_draw c h ≡ Some (room, ticket) → first_in c h ≡ Some f
    → (last_draw c (mid ++ h) ≡ Some (room, ticket)) × (first_in c (mid ++ h) ≡ Some f)
after_look rooms c room ticket f [] h k x low ed ef = (ed, ef)
after_look rooms c room ticket f (m ∷ mid) h k x low ed ef =
    let lower : last_to room (trace (mid ++ h)) < ticket =
    omega (arith, low, last_to_moment room m (mid ++ h) k) in
    let rest = after_look rooms c room ticket f mid h k.2 x.4 lower ed ef in
    still_holds c room ticket f (mid ++ h) m m.act refl x.2 lower rest.0 rest.1

looks_step : (a : Act) (one : Option Item) (word : ℕ) → OnlyLooks a one (Load Active word)
    → a ≡ Step
looks_step a None word k = k
looks_step a (Some (Opened turn r from to)) word k = absurd k
looks_step a (Some (Entered c r)) word k = k
looks_step a (Some (Left c)) word k = k
looks_step a (Some (ExitBegun r)) word k = k
looks_step a (Some (ExitEnded r)) word k = k

module _ (rooms : ℕ) (h : List Moment) (k : LawfulBack h) (x : PromptBack rooms h) (room ticket first : ℕ) (l : FirstLook (reverse h) room ticket first) (o : Opening) (lets : Admits o room ticket) where
  -- the moments before the look, the latest first
  abbrev before_look : List Moment
  before_look = reverse l.between ++ l.draw ∷ reverse l.before

  split : h ≡ reverse l.after ++ l.look ∷ before_look
  split =
      split_back_at h (l.before ++ l.draw ∷ l.between) l.look l.after l.stands
      ∙ ap (λ z. reverse l.after ++ l.look ∷ z)
      (split_back_at (reverse (l.before ++ l.draw ∷ l.between)) l.before l.draw l.between
      (reverse-reverse (l.before ++ l.draw ∷ l.between)))

  prompt_here : PromptBack rooms (l.look ∷ before_look)
  prompt_here =
      prompt_suffix rooms (reverse l.after) (l.look ∷ before_look)
      (subst (PromptBack rooms) split x)

  lawful_here : LawfulBack (l.look ∷ before_look)
  lawful_here = lawful_suffix (reverse l.after) (l.look ∷ before_look) (subst LawfulBack split k)

  held : last_draw l.draw.caller before_look ≡ Some (room, ticket)
  held =
      (quiet l.draw.caller room (reverse l.between) (reverse l.before) l.draw refl l.draws (count-reverse (is_look_of l.draw.caller) l.between ∙ l.first)).0
      ∙ ap (λ (z : ℕ). Some (room, z))
      (let n : draws room (reverse l.before) ≡ drawn room l.before =
      draws-reverse room (reverse l.before) ∙ ap (drawn room) (reverse-reverse l.before) in
      omega (arith, n, l.number))

  unseen : first_in l.draw.caller before_look ≡ None
  unseen =
      (quiet l.draw.caller room (reverse l.between) (reverse l.before) l.draw refl l.draws (count-reverse (is_look_of l.draw.caller) l.between ∙ l.first)).1

  steps : l.look.act ≡ Step
  steps =
      looks_step l.look.act l.look.event.one l.word
      (subst (OnlyLooks l.look.act l.look.event.one) l.loads prompt_here.3)

  -- the opening came before the look
  earlier : Contains (all_opened (trace before_look)) o
      → (first ≤ o.turn) × (o.turn ≤ first + rooms)
  earlier there =
      let opens = opens_back before_look lawful_here.2 in
      let sees : SeesItsTurn l.draw.caller before_look (Load Active l.word) =
      subst (SeesItsTurn l.draw.caller before_look) l.loads
      (subst (λ (z : ℕ). SeesItsTurn z before_look l.look.event.touch) l.same prompt_here.1) in
      let low : ticket ≤ last_to room (trace before_look) =
      omega (
        arith,
        lets.up_to,
        to_low (trace before_look) opens o there,
        ap (λ (z : ℕ). last_to z (trace before_look)) lets.of_room,
      ) in
      let seen_now = sees room ticket held low in
      let same : seen_now.0 ≡ o =
      one_admits (trace before_look) opens o seen_now.0 room ticket there
      (last_listed (trace before_look) seen_now.0 seen_now.1) lets seen_now.2 in (
        omega (arith, l.turn_is, seen_now.3, ap (λ (z : Opening). z.turn) same),
        omega (arith, l.turn_is, seen_now.3, ap (λ (z : Opening). z.turn) same),
      )

  -- the opening comes after the look
  later : (mid before : List Moment) (p : Moment) → LawfulBack (p ∷ before)
      → PromptBack rooms (p ∷ before) → before ≡ mid ++ l.look ∷ before_look
      → p.event.one ≡ Some (item_of o) → (first ≤ o.turn) × (o.turn ≤ first + rooms)
  later mid before p kp xp e one =
      let a = subst (λ z. LawfulAt p.caller before z (trace before)) one kp.0 in
      let low : last_to room (trace before) < ticket =
      omega (arith, lets.above, a.1, ap (λ (z : ℕ). last_to z (trace before)) lets.of_room) in
      let ed : last_draw l.draw.caller (l.look ∷ before_look) ≡ Some (room, ticket) =
      skip_draw l.draw.caller l.look before_look (ap is_draw steps) ∙ held in
      let ef : first_in l.draw.caller (l.look ∷ before_look) ≡ Some first =
      cond-true (eqb l.look.caller l.draw.caller)
      (first_by l.look.act l.look.event.touch (first_in l.draw.caller before_look))
      (first_in l.draw.caller before_look) (eq-eqb l.look.caller l.draw.caller l.same)
      ∙ ap (λ (z : Act). first_by z l.look.event.touch (first_in l.draw.caller before_look)) steps
      ∙ ap (λ (z : Touch). first_by Step z (first_in l.draw.caller before_look)) l.loads
      ∙ ap (λ (z : Option ℕ). first_by Step (Load Active l.word) z) unseen
      ∙ ap (λ (z : ℕ). Some z) (sym l.turn_is) in
      let now =
      after_look rooms l.draw.caller room ticket first mid (l.look ∷ before_look)
      (subst LawfulBack e kp.2) (subst (PromptBack rooms) e xp.4)
      (subst (λ z. last_to room (trace z) < ticket) e low) ed ef in
      subst (Prompt rooms before) one xp.0 l.draw.caller ticket first
      (ap (last_draw l.draw.caller) e ∙ now.0 ∙ ap (λ (z : ℕ). Some (z, ticket)) (sym lets.of_room))
      lets.above lets.up_to (ap (first_in l.draw.caller) e ∙ now.1)

  prompt_at : Contains (all_opened (trace h)) o → (first ≤ o.turn) × (o.turn ≤ first + rooms)
  prompt_at there =
      let m = opening_moment o h k there in
      let kp : LawfulBack (m.1 ∷ m.2) = lawful_suffix m.0 (m.1 ∷ m.2) (subst LawfulBack m.3 k) in
      let xp : PromptBack rooms (m.1 ∷ m.2) =
      prompt_suffix rooms m.0 (m.1 ∷ m.2) (subst (PromptBack rooms) m.3 x) in
      elim (places (reverse l.after) l.look before_look m.0 m.1 m.2 (sym split ∙ m.3)) [
        | inl same ↦ absurd (subst (λ z. OnlyLooks l.look.act z (Load Active l.word)) (ap (λ (z : Moment). z.event.one) same ∙ m.4) (subst (OnlyLooks l.look.act l.look.event.one) l.loads prompt_here.3))
        | inr (inl after) ↦ later after.0 m.2 m.1 kp xp after.1 m.4
        | inr (inr earlier_) ↦ earlier (subst (λ z. Contains (all_opened (trace z)) o) (sym earlier_.1) (opened_since earlier_.0 (m.1 ∷ m.2) o (opened_here m.1 m.2 o m.4)))
      ]

-- the openings in between
between_step : (first last n : ℕ) (b : Bool) → (ltb first (n + 1) && ltb (n + 1) last) ≡ b
    → (count : ℕ) → count ≤ min n (last - 1) - first
    → count + cond b 1 0 ≤ min (n + 1) (last - 1) - first
between_step first last n true e count low =
    let parts = and_parts (ltb first (n + 1)) (ltb (n + 1) last) e in
    omega (arith, ltb-true first (n + 1) parts.0, ltb-true (n + 1) last parts.1)
between_step first last n false e count low = omega arith

between_back : (first last : ℕ) (t : List Item) → OpensBack t
    → count_by (is_between first last) (all_opened t) ≤ min (openings t) (last - 1) - first
between_back first last [] k = omega arith
between_back first last (Opened turn r from to ∷ t) k =
    let o : Opening = record { turn = turn; room = r; from = from; to = to } in
    let old = between_back first last t k.1 in
    let more =
    between_step first last (openings t)
    (ltb first (openings t + 1) && ltb (openings t + 1) last) refl
    (count_by (is_between first last) (all_opened t)) old in
    let same : is_between first last o ≡ (ltb first (openings t + 1) && ltb (openings t + 1) last) =
    ap (λ (z : ℕ). ltb first z && ltb z last) k.0.0 in
    omega (
      arith,
      count-push (is_between first last) (all_opened t) o,
      ap (λ (b : Bool). cond {A = ℕ} b 1 0) same,
      more,
    )
between_back first last (Entered c r ∷ t) k = between_back first last t k.1
between_back first last (Left c ∷ t) k = between_back first last t k.1
between_back first last (ExitBegun r ∷ t) k = between_back first last t k.1
between_back first last (ExitEnded r ∷ t) k = between_back first last t k.1

pub prompt_in_order : (rooms : ℕ) (h : List Moment) → LawfulBack h → PromptBack rooms h
    → IsPrompt rooms (reverse h)
prompt_in_order rooms h k x =
    let same : opened (trace_of (reverse h)) ≡ all_opened (trace h) =
    ap opened (trace_of-reverse h) ∙ sym (all_opened-reverse (trace h)) in
    record {
      each =
          λ room ticket first o l there lets.
          prompt_at rooms h k x room ticket first l o lets (subst (λ z. Contains z o) same there);
      between = λ room ticket first o l there lets.
          let bound =
          prompt_at rooms h k x room ticket first l o lets
          (subst (λ z. Contains z o) same there) in
          omega (
            arith,
            ap (count_by (is_between first o.turn)) same,
            between_back first o.turn (trace h) (opens_back h k),
            bound.0,
            bound.1,
          );
    }
