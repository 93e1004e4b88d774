-- No step lets a ticket be passed for longer.
use Rattle.std.proofs.Common.{◌≡◌, ◌≢◌, ℕ, suc, ◌+◌, ◌<◌, ◌≤◌, Bool, true, false, List, length, get_or, set, Option, Some, None, refl, sym, ap, ◌∙◌, subst, inl, inr, arith}
use Rattle.std.proofs.lemmas.Bool.{cases_lt, cases_eq}
use Rattle.std.proofs.lemmas.List.{length-set, get_or-set_same, get_or-set_other}
use Rattle.room_core.specs.declared.acts.Act.{Act}
use Rattle.room_core.specs.declared.phases.Phase.{Phase}
use Rattle.room_core.specs.declared.phases.Phase.TheVariants.{Out, Looking, Glancing, Seizing, Counting, Admitting, Turning, Inside, Exiting, Peering, Scanning, Passing}
use Rattle.room_core.specs.declared.items.Item.{Item}
use Rattle.room_core.specs.Words.{Words, touched}
use Rattle.room_core.specs.Machine.{Row, next_room}
use Rattle.room_core.specs.Active.{turn_of, code_of, pack, seen}
use Rattle.room_core.specs.Trace.{is_exiting}
use Rattle.room_core.proofs.Lists.{within}
use Rattle.room_core.proofs.Invariant.{is_keeper, phase, Waits, Admitted, Opens, Fits, Inv}
use Rattle.room_core.proofs.Rows.{fits_at, inside_open}
use Rattle.room_core.proofs.Changes.{late}
use Rattle.room_core.proofs.Keys.{no_keeper, idle_shut, code_of_pack, turn_of_pack, is_false}
use Rattle.room_core.proofs.Went.{Went, drawn, found, missed, saw_idle, saw_busy, won, lost, counted_wait, opened, opened_in, entered, left, left_last, exited, chose, ended, went_on, scanned, passed, rested}
use Rattle.room_core.proofs.Due.{ahead, ahead_low, ahead_same, BoundBy, Bounded, DueAt, Named, Due, Conv, conv_at, due_key, due_same, plain_bound, fresh, next_ahead_at, next_further_at, ahead_last_at, ahead_self_at, ahead_less}

-- the others have no key
pub others_none : (s : Words) (ps : List Phase) (t : List Item) (c : ℕ) (p : Phase) → Inv s ps t
    → phase ps c ≡ p → is_keeper p ≡ true → (d : ℕ) → d ≢ c → is_keeper (phase ps d) ≡ true → ⊥
others_none s ps t c p i e kp d ne kd = ne (i.one d c kd (ap is_keeper e ∙ kp))

-- the key's holder moves
keeper_moves : (m : ℕ) (s s' : Words) (ps : List Phase) (tr : List Item) (c : ℕ) (old p : Phase)
    → Inv s ps tr → c < length ps → phase ps c ≡ old → is_keeper old ≡ true → (d : Due m s ps)
    → length s'.wait ≡ m → code_of s'.active ≤ m → Conv m s s' old p
    → ((DueAt m s'.active s'.grant p old) → DueAt m s'.active s'.grant p p) → Named m p
    → Due m s' (set ps c p)
keeper_moves m s s' ps tr c old p i h e ko d rooms code k mine n =
    let same : d.key ≡ old = sym (d.key_is c (ap is_keeper e ∙ ko)) ∙ e in
    let k' : Conv m s s' d.key p = rw same k in
    due_key m s s' ps tr c p i h d rooms code (others_none s ps tr c old i e ko)
    (mine
    (subst (DueAt m s'.active s'.grant p) e
    (conv_at m s s' ps tr d.key p i d.rooms k' c (d.each c)))) k' n

-- only the key's phase changes: neither the active word nor a grant
conv_busy : (m : ℕ) (s : Words) (key key' : Phase)
    → ((r : ℕ) → get_or s.done r 0 ≡ get_or s.grant r 0)
    → ((q t f : ℕ) → q < m → t ≤ get_or s.wait q 0 → get_or s.grant q 0 < t
    → BoundBy m (turn_of s.active) (code_of s.active) q t f key
    → BoundBy m (turn_of s.active) (code_of s.active) q t f key')
    → Conv m s s key key'
conv_busy m s key key' shut k q t f hq pos low late b = record {
  seen_before = b.seen_before;
  idle = b.idle;
  busy = λ c l. k q t f hq low l (b.busy c l);
  admitted = b.admitted;
}

seen_due : (m active granted : ℕ) (key : Phase) (q t : ℕ) (first : Option ℕ) → code_of active ≤ m
    → q < m
    → ((f : ℕ) → first ≡ Some f → Bounded m (turn_of active) (code_of active) granted key q t f)
    → (f : ℕ) → seen first active ≡ Some f
    → Bounded m (turn_of active) (code_of active) granted key q t f
seen_due m active granted key q t (Some x) c h d f e = d f e
seen_due m active granted key q t None c h d f e =
    let same : f ≡ turn_of active = cc in
    subst (λ x. Bounded m (turn_of active) (code_of active) granted key q t x) (sym same) (record {
      seen_before = omega arith;
      idle = λ _ _. omega arith;
      busy =
          λ pos _.
          fresh m (turn_of active) (code_of active) q t key
          (ahead_low m (code_of active) q pos c h).1;
      admitted = λ _. omega arith;
    })

-- the store of a grant: those that it lets in keep their bound, and the others count from the room behind
opened_bounds : (m : ℕ) (s : Words) (now : Bool) (room ticket : ℕ) (first : Option ℕ) (turn to : ℕ) (new : Phase)
    → ((q t g : ℕ) → BoundBy m (turn_of s.active) (code_of s.active) q t g Out
    → BoundBy m (turn_of s.active) (code_of s.active) q t g new)
    → Fits s now (Admitting room ticket first turn to) → room < m → room < length s.grant
    → Conv m s (record s { grant = set s.grant room to }) (Admitting room ticket first turn to) new
opened_bounds m s now room ticket first turn to new like_out f small within_grants q t g hq pos low late b =
    let here : get_or (set s.grant room to) room 0 ≡ to =
    get_or-set_same s.grant room to 0 within_grants in
    let busy : 0 < code_of s.active = f.0.keeps.busy in
    let l = late f.0.keeps.shut in let x = b.busy busy l in
    elim (cases_eq q room) [
      | inl same ↦ (let now : get_or (set s.grant room to) q 0 ≡ to = ap (λ v. get_or (set s.grant room to) v 0) same ∙ here in
          record { seen_before = b.seen_before; idle = λ z. absurd (omega (arith, z, busy)); busy = λ _ l'. like_out q t g (x.2 (omega (arith, l', now))); admitted = λ _. x.0 })
      | inr other ↦ (let now : get_or (set s.grant room to) q 0 ≡ get_or s.grant q 0 = get_or-set_other s.grant room q to 0 other in
          let near : ahead m (code_of s.active) q < m =
          elim (cases_lt (ahead m (code_of s.active) q) m)
          [ inl n ↦ n | inr far ↦ absurd (other (ahead_last_at m (code_of s.active) room q f.0.code small hq far)) ] in
          record { seen_before = b.seen_before; idle = λ z. absurd (omega (arith, z, busy)); busy = λ _ _. like_out q t g (x.1 near); admitted = λ le. absurd (omega (arith, le, now, l)) })
    ]

-- a step of somebody without the key, who holds the same ticket with the same first turn
same_moves : (m : ℕ) (s : Words) (done : List ℕ) (ps : List Phase) (c : ℕ) (old p : Phase)
    → c < length ps → phase ps c ≡ old → (d : Due m s ps)
    → is_keeper old ≡ false → is_keeper p ≡ false
    → (DueAt m s.active s.grant d.key old → DueAt m s.active s.grant d.key p) → Named m p
    → Due m (record { active = s.active; wait = s.wait; grant = s.grant; done = done }) (set ps c p)
same_moves m s done ps c old p h e d ko kp mine n =
    due_same m s s.wait done ps c old p h e d d.rooms ko kp
    (mine (subst (DueAt m s.active s.grant d.key) e (d.each c))) n

pub due_went : (m c : ℕ) (s : Words) (ps : List Phase) (tr : List Item) (p : Phase) (act : Act) (row : Row)
    → Went c s p act row → Inv s ps tr → c < length ps → phase ps c ≡ p → Due m s ps
    → Due m (touched s row.1.touch) (set ps c row.0)
due_went m c s ps tr p act row (drawn r hr) i h e d =
    due_same m s (set s.wait r (get_or s.wait r 0 + 1)) s.done ps c Out
    (Looking r (get_or s.wait r 0 + 1) None) h e d
    (length-set s.wait r (get_or s.wait r 0 + 1) ∙ d.rooms) refl refl (λ f ef pos. absurd (cc)) tt
due_went m c s ps tr p act row (found room ticket first le) i h e d =
    same_moves m s s.done ps c (Looking room ticket first)
    (Turning room ticket first (get_or s.grant room 0)) h e d refl refl (λ x. x) tt
due_went m c s ps tr p act row (missed room ticket first le) i h e d =
    same_moves m s s.done ps c (Looking room ticket first) (Glancing room ticket first) h e d refl
    refl (λ x. x) tt
due_went m c s ps tr p act row (saw_idle room ticket first z) i h e d =
    let w : Waits s room ticket = fits_at s ps tr c (Glancing room ticket first) i e in
    let small : room < m =
    omega (arith, within s.wait room (omega (arith, w.some, w.drawn)), d.rooms) in
    same_moves m s s.done ps c (Glancing room ticket first)
    (Seizing room ticket (seen first s.active) s.active) h e d refl refl
    (λ x f ef pos.
    seen_due m s.active (get_or s.grant room 0) d.key room ticket first d.code small
    (λ f' e'. x f' e' pos) f ef) tt
due_went m c s ps tr p act row (saw_busy room ticket first) i h e d =
    let w : Waits s room ticket = fits_at s ps tr c (Glancing room ticket first) i e in
    let small : room < m =
    omega (arith, within s.wait room (omega (arith, w.some, w.drawn)), d.rooms) in
    same_moves m s s.done ps c (Glancing room ticket first)
    (Looking room ticket (seen first s.active)) h e d refl refl
    (λ x f ef pos.
    seen_due m s.active (get_or s.grant room 0) d.key room ticket first d.code small
    (λ f' e'. x f' e' pos) f ef) tt
due_went m c s ps tr p act row (won room ticket first) i h e d =
    let f : Fits s (is_exiting tr) (Seizing room ticket first s.active) =
    fits_at s ps tr c (Seizing room ticket first s.active) i e in
    let a : ℕ = pack (turn_of s.active + 1) (room + 1) in
    let shut = idle_shut s ps tr i f.1 in
    let small : room < length s.wait = within s.wait room (omega (arith, f.0.some, f.0.drawn)) in
    let code : code_of a ≡ room + 1 =
    code_of_pack (turn_of s.active + 1) (room + 1) (omega (arith, small, i.few)) in
    let turn : turn_of a ≡ turn_of s.active + 1 =
    turn_of_pack (turn_of s.active + 1) (room + 1) (omega (arith, small, i.few)) in
    let s' : Words = record s { active = a } in
    let new : Phase = Counting room ticket first (turn_of s.active + 1) in
    let k : Conv m s s' d.key new = λ q t g hq pos low late b. (let l = late shut in let seen_all : turn_of s.active ≤ g = b.idle f.1 l in record {
      seen_before = omega (arith, b.seen_before, turn);
      idle = λ z. absurd (omega (arith, z, code));
      busy = λ _ _. (omega (arith, seen_all, turn, hq), λ lt. omega (arith, seen_all, turn, lt));
      admitted = λ le. absurd (omega (arith, le, l));
    }) in
    due_key m s s' ps tr c new i h d d.rooms (omega (arith, code, small, d.rooms))
    (λ b _ kb. no_keeper s ps tr b i (inr f.1) kb)
    (subst (DueAt m a s.grant new) e (conv_at m s s' ps tr d.key new i d.rooms k c (d.each c))) k tt
due_went m c s ps tr p act row (lost room ticket first idle) i h e d =
    same_moves m s s.done ps c (Seizing room ticket first idle) (Looking room ticket first) h e d
    refl refl (λ x. x) tt
due_went m c s ps tr p act row (counted_wait room ticket first turn) i h e d =
    let f : Opens s (is_exiting tr) room ticket turn =
    fits_at s ps tr c (Counting room ticket first turn) i e in
    let new : Phase = Admitting room ticket first turn (get_or s.wait room 0) in
    let small : room < m = omega (arith, f.code, d.code) in
    keeper_moves m s s ps tr c (Counting room ticket first turn) new i h e refl d d.rooms d.code
    (conv_busy m s (Counting room ticket first turn) new f.keeps.shut (λ q t g hq low l b. (
      b.0,
      b.1,
      λ lt. elim (cases_lt (ahead m (code_of s.active) q) m) [
        | inl near ↦ b.1 near
        | inr far ↦ absurd (let same : q ≡ room = ahead_last_at m (code_of s.active) room q f.code small hq far in let low' : t ≤ get_or s.wait room 0 = rw same at low in omega (arith, low', lt))
      ],
    )))
    (λ x. x) tt
due_went m c s ps tr p act row (opened room first turn to) i h e d =
    let old : Phase = Admitting room 0 first turn to in
    let new : Phase = Out in
    let f : Fits s (is_exiting tr) old = fits_at s ps tr c old i e in
    let small : room < m = omega (arith, within s.wait room (omega (arith, f.0.more)), d.rooms) in
    let s' : Words = record s { grant = set s.grant room to } in
    let k : Conv m s s' old new = opened_bounds m s (is_exiting tr) room 0 first turn to new (λ _ _ _ x. x) f small (omega (arith, small, i.grants, d.rooms)) in
    keeper_moves m s s' ps tr c old new i h e refl d d.rooms d.code k (λ _ f' ef pos. absurd (cc))
    tt
due_went m c s ps tr p act row (opened_in room ticket first turn to) i h e d =
    let old : Phase = Admitting room (suc ticket) first turn to in
    let new : Phase = Inside room (suc ticket) first turn to in
    let f : Fits s (is_exiting tr) old = fits_at s ps tr c old i e in
    let small : room < m = omega (arith, within s.wait room (omega (arith, f.0.more)), d.rooms) in
    let s' : Words = record s { grant = set s.grant room to } in
    let k : Conv m s s' old new = opened_bounds m s (is_exiting tr) room (suc ticket) first turn to new (λ _ _ _ x. x) f small (omega (arith, small, i.grants, d.rooms)) in
    keeper_moves m s s' ps tr c old new i h e refl d d.rooms d.code k (λ x. x) tt
due_went m c s ps tr p act row (entered room ticket first to) i h e d =
    let w : Admitted s room ticket to = fits_at s ps tr c (Turning room ticket first to) i e in
    let small : room < m =
    omega
    (arith, within s.wait room (omega (arith, w.some, w.granted, i.granted room)), d.rooms) in
    same_moves m s s.done ps c (Turning room ticket first to)
    (Inside room ticket (seen first s.active) (turn_of s.active) to) h e d refl refl
    (λ x f ef pos.
    seen_due m s.active (get_or s.grant room 0) d.key room ticket first d.code small
    (λ f' e'. x f' e' pos) f ef) tt
due_went m c s ps tr p act row (left room ticket first turn to short) i h e d =
    same_moves m s (set s.done room (get_or s.done room 0 + 1)) ps c
    (Inside room ticket first turn to) Out h e d refl refl (λ _ f ef pos. absurd (cc)) tt
due_went m c s ps tr p act row (left_last room ticket first turn to full) i h e d =
    let opened_now : get_or s.done room 0 < get_or s.grant room 0 =
    inside_open s ps tr c room ticket first turn to i e in
    let plain : is_keeper d.key ≡ false =
    is_false (is_keeper d.key)
    (λ kk.
    let w = d.held kk in
    no_keeper s ps tr w.0 i (inl (room, opened_now)) (ap is_keeper w.1 ∙ kk)) in
    due_key m s (record s { done = set s.done room (get_or s.done room 0 + 1) }) ps tr c
    (Exiting room turn) i h d d.rooms d.code
    (λ b _ kb. no_keeper s ps tr b i (inl (room, opened_now)) kb)
    (λ _ ef. absurd (cc))
    (λ q t g hq pos low late b.
    record {
      seen_before = b.seen_before;
      idle = b.idle;
      busy =
          λ cb l.
          plain_bound m (turn_of s.active) (code_of s.active) q t g d.key plain (b.busy cb l);
      admitted = b.admitted;
    }) tt
due_went m c s ps tr p act row (exited room turn) i h e d =
    let f : Fits s (is_exiting tr) (Exiting room turn) =
    fits_at s ps tr c (Exiting room turn) i e in
    let k = next_room s room in
    let new : Phase = Peering room turn k (get_or s.wait k 0) in
    let small : room < m = omega (arith, f.1, d.code) in
    let nx = next_ahead_at m (length s.wait) (code_of s.active) room d.rooms f.1 small in
    keeper_moves m s s ps tr c (Exiting room turn) new i h e refl d d.rooms d.code
    (conv_busy m s (Exiting room turn) new f.0.shut (λ q t g hq low l b. (
      b,
      (λ lt.
          absurd (omega (arith, lt, nx.1, (ahead_low m (code_of s.active) q f.0.busy d.code hq).0))),
      (λ same lt.
          absurd
          (let eq : q ≡ k = ahead_same m (code_of s.active) q k f.0.busy d.code hq nx.0 same in
          let low' : t ≤ get_or s.wait k 0 = rw eq at low in omega (arith, low', lt))),
    )))
    (λ _ f' ef. absurd (cc)) nx.0
due_went m c s ps tr p act row (chose room turn k w lt) i h e d =
    let f = fits_at s ps tr c (Peering room turn k w) i e in
    keeper_moves m s s ps tr c (Peering room turn k w) (Passing turn (Some k)) i h e refl d d.rooms
    d.code
    (conv_busy m s (Peering room turn k w) (Passing turn (Some k)) f.0.shut
    (λ q t f' hq low l b. (b.0, b.1))) (λ _ f' ef pos. absurd (cc)) tt
due_went m c s ps tr p act row (ended room turn w le) i h e d =
    let f : Fits s (is_exiting tr) (Peering room turn room w) =
    fits_at s ps tr c (Peering room turn room w) i e in
    let small : room < m = omega (arith, f.1, d.code) in
    let self : ahead m (code_of s.active) room ≡ m =
    ahead_self_at m (code_of s.active) room f.1 small in
    keeper_moves m s s ps tr c (Peering room turn room w) (Passing turn None) i h e refl d d.rooms
    d.code
    (conv_busy m s (Peering room turn room w) (Passing turn None) f.0.shut (λ q t g hq low l b. elim (cases_lt (ahead m (code_of s.active) q) m) [
      | inl near ↦ b.1 (omega (arith, near, self))
      | inr far ↦ (let same : q ≡ room = ahead_last_at m (code_of s.active) room q f.1 small hq far in let l' : get_or s.grant room 0 < t = rw same at l in
          b.2 (ap (ahead m (code_of s.active)) same) (omega (arith, le, l')))
    ]))
    (λ _ f' ef. absurd (cc)) tt
due_went m c s ps tr p act row (went_on room turn k w le ne) i h e d =
    let f : Fits s (is_exiting tr) (Peering room turn k w) =
    fits_at s ps tr c (Peering room turn k w) i e in
    let new : Phase = Scanning room turn (next_room s k) in
    let small : room < m = omega (arith, f.1, d.code) in
    let small_k : k < m = subst (Named m) e (d.named c) in
    let nx =
    next_further_at m (length s.wait) (code_of s.active) room k d.rooms f.1 small small_k ne in
    keeper_moves m s s ps tr c (Peering room turn k w) new i h e refl d d.rooms d.code
    (conv_busy m s (Peering room turn k w) new f.0.shut (λ q t g hq low l b. (
      b.0,
      λ lt. elim (cases_eq (ahead m (code_of s.active) q) (ahead m (code_of s.active) k)) [
        | inl same ↦ (let eq : q ≡ k = ahead_same m (code_of s.active) q k f.0.busy d.code hq small_k same in let l' : get_or s.grant k 0 < t = rw eq at l in b.2 same (omega (arith, le, l')))
        | inr other ↦ b.1 (omega (arith, lt, nx.1, other))
      ],
    )))
    (λ _ f' ef. absurd (cc)) nx.0
due_went m c s ps tr p act row (scanned room turn k) i h e d =
    let f : Fits s (is_exiting tr) (Scanning room turn k) =
    fits_at s ps tr c (Scanning room turn k) i e in
    let new : Phase = Peering room turn k (get_or s.wait k 0) in
    let small_k : k < m = subst (Named m) e (d.named c) in
    keeper_moves m s s ps tr c (Scanning room turn k) new i h e refl d d.rooms d.code
    (conv_busy m s (Scanning room turn k) new f.0.shut (λ q t g hq low l b. (
      b.0,
      b.1,
      (λ same lt.
          absurd
          (let eq : q ≡ k = ahead_same m (code_of s.active) q k f.0.busy d.code hq small_k same in
          let low' : t ≤ get_or s.wait k 0 = rw eq at low in omega (arith, low', lt))),
    )))
    (λ _ f' ef. absurd (cc)) small_k
due_went m c s ps tr p act row (passed turn k) i h e d =
    let f : Fits s (is_exiting tr) (Passing turn (Some k)) =
    fits_at s ps tr c (Passing turn (Some k)) i e in
    let a : ℕ = pack (turn + 1) (k + 1) in
    let small : k < length s.wait = within s.wait k (omega (arith, f.1)) in
    let code : code_of a ≡ suc k =
    omega (arith, code_of_pack (turn + 1) (k + 1) (omega (arith, small, i.few))) in
    let turn_is : turn_of a ≡ turn_of s.active + 1 =
    omega (arith, turn_of_pack (turn + 1) (k + 1) (omega (arith, small, i.few)), f.0.turn_is) in
    let small_k : k < m = omega (arith, small, d.rooms) in
    let new : Phase = Counting k 0 None (turn + 1) in
    keeper_moves m s (record s { active = a }) ps tr c (Passing turn (Some k)) new i h e refl d
    d.rooms (omega (arith, code, small_k))
    (λ q t g hq pos low late b. let l = late f.0.shut in let x = b.busy f.0.busy l in
    let lowq =
    ahead_low m (code_of s.active) q f.0.busy d.code hq in let lowk = ahead_low m
    (code_of s.active) k f.0.busy d.code small_k in
    record {
      seen_before = omega (arith, b.seen_before, turn_is);
      idle = λ z. absurd (omega (arith, z, code));
      busy = λ _ _. (
        omega (arith, x.0, lowq.0, turn_is),
        λ near. elim (cases_lt (ahead m (code_of s.active) q) (ahead m (code_of s.active) k)) [
          | inl lt ↦ omega (arith, x.1 lt, near, turn_is)
          | inr ge ↦ omega (arith, x.0, ge, turn_is, lowk.0, ahead_less m (code_of s.active) (code_of a) q k f.0.busy d.code code hq small_k ge near)
        ],
      );
      admitted = λ le. absurd (omega (arith, le, l));
    })
    (λ _ f' ef. absurd (cc)) tt
due_went m c s ps tr p act row (rested turn) i h e d =
    let f : Fits s (is_exiting tr) (Passing turn None) =
    fits_at s ps tr c (Passing turn None) i e in
    let a : ℕ = pack turn 0 in
    let code : code_of a ≡ 0 = code_of_pack turn 0 (omega arith) in
    let turn_is : turn_of a ≡ turn_of s.active =
    omega (arith, turn_of_pack turn 0 (omega arith), f.0.turn_is) in
    keeper_moves m s (record s { active = a }) ps tr c (Passing turn None) Out i h e refl d d.rooms
    (omega (arith, code))
    (λ q t g hq pos low late b. let l = late f.0.shut in record {
      seen_before = omega (arith, b.seen_before, turn_is);
      idle = λ _ _. omega (arith, turn_is, b.busy f.0.busy l);
      busy = λ z. absurd (omega (arith, z, code));
      admitted = λ le. absurd (omega (arith, le, l));
    })
    (λ _ f' ef. absurd (cc)) tt

-- whoever is inside saw a turn first that is at most m before
pub inside_due : (m : ℕ) (s : Words) (now : Bool) (p key : Phase) → Fits s now p
    → DueAt m s.active s.grant key p → (room ticket : ℕ) (f turn to : ℕ)
    → p ≡ Inside room ticket (Some f) turn to → (f ≤ turn) × (turn ≤ f + m)
inside_due m s now (Inside room' ticket' first' turn' to') key x d room ticket f turn to e =
    let ef : first' ≡ Some f = cc in
    let et : turn' ≡ turn = cc in
    let b = d f ef x.0.some in
    (omega (arith, b.seen_before, x.1, et), omega (arith, b.admitted x.0.granted, x.1, et))
inside_due m s now _ key x d room ticket f turn to e = absurd (cc)
