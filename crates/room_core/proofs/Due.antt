-- By which turn each ticket is admitted, at the latest.
use Rattle.std.proofs.Common.{◌≡◌, ◌≢◌, ℕ, suc, ◌+◌, ◌-◌, ◌%◌, ◌<◌, ◌≤◌, Bool, true, false, cond, List, length, get_or, set, Option, Some, None, refl, ap, ◌∙◌, inl, inr, ◌⊎◌, arith, leb}
use Rattle.std.proofs.lemmas.Bool.{cases_lt, cond_both, leb-true, leb-false}
use Rattle.std.proofs.lemmas.List.{get_or-set_same, get_or-set_other}
use Rattle.std.proofs.Math.Nat.{mod_self, mod-eq_of_lt}
use Rattle.room_core.specs.declared.phases.Phase.{Phase}
use Rattle.room_core.specs.declared.phases.Phase.TheVariants.{Out, Looking, Glancing, Seizing, Counting, Admitting, Turning, Inside, Exiting, Peering, Scanning, Passing}
use Rattle.room_core.specs.declared.items.Item.{Item}
use Rattle.room_core.specs.Words.{Words}
use Rattle.room_core.specs.Active.{turn_of, code_of}
use Rattle.room_core.specs.Trace.{is_exiting}
use Rattle.room_core.proofs.Lists.{each_set, within}
use Rattle.room_core.proofs.Invariant.{ticket_of, room_of, is_keeper, phase, Fits, Inv}
use Rattle.room_core.proofs.Changes.{late}

abbrev pub first_of : Phase → Option ℕ
first_of (Looking room ticket first) = first
first_of (Glancing room ticket first) = first
first_of (Seizing room ticket first idle) = first
first_of (Counting room ticket first turn) = first
first_of (Admitting room ticket first turn to) = first
first_of (Turning room ticket first to) = first
first_of (Inside room ticket first turn to) = first
first_of _ = None

-- how far room q lies ahead of the room with this code, 1 to m
pub ahead : ℕ → ℕ → ℕ → ℕ
ahead m code q = cond (leb code q) (q + 1 - code) (q + 1 + m - code)

pub ahead_is : (m code q : ℕ) → code ≤ m
    → (code ≤ q → ahead m code q + code ≡ q + 1) × (q < code → ahead m code q + code ≡ q + 1 + m)
unfolding ahead
ahead_is m code q h =
    cond_both (leb code q) (q + 1 - code) (q + 1 + m - code)
    (λ v. (code ≤ q → v + code ≡ q + 1) × (q < code → v + code ≡ q + 1 + m))
    (λ e. (λ l. omega (arith, leb-true code q e), λ l. absurd (omega (arith, leb-true code q e))))
    (λ e. (λ l. absurd (omega (arith, leb-false code q e)), λ l. omega (arith, leb-false code q e)))

abbrev pub BoundBy : ℕ → ℕ → ℕ → ℕ → ℕ → ℕ → Phase → Type 0
BoundBy m turn code q t f (Counting room ticket first turn') =
    (turn ≤ f + m) × (ahead m code q < m → turn + ahead m code q ≤ f + m)
BoundBy m turn code q t f (Admitting room ticket first turn' to) =
    (turn ≤ f + m) × (ahead m code q < m → turn + ahead m code q ≤ f + m) ×
    (to < t → turn + ahead m code q ≤ f + m)
BoundBy m turn code q t f (Peering room turn' k w) =
    (turn + ahead m code q ≤ f + m) × (ahead m code q < ahead m code k → turn ≤ f) ×
    (ahead m code q ≡ ahead m code k → w < t → turn ≤ f)
BoundBy m turn code q t f (Scanning room turn' k) =
    (turn + ahead m code q ≤ f + m) × (ahead m code q < ahead m code k → turn ≤ f)
BoundBy m turn code q t f (Passing turn' (Some k)) =
    (turn + ahead m code q ≤ f + m) × (ahead m code q < ahead m code k → turn ≤ f)
BoundBy m turn code q t f (Passing turn' None) = turn ≤ f
BoundBy m turn code q t f _ = turn + ahead m code q ≤ f + m

-- a ticket t of room q whose holder saw the turn f first
pub record Bounded (m turn code granted : ℕ) (key : Phase) (q t f : ℕ) : Type 0 where
  pub seen_before : f ≤ turn
  pub idle : code ≡ 0 → granted < t → turn ≤ f
  pub busy : 0 < code → granted < t → BoundBy m turn code q t f key
  pub admitted : t ≤ granted → turn ≤ f + m

abbrev pub DueAt : ℕ → ℕ → List ℕ → Phase → Phase → Type 0
DueAt m active grant key p =
    (f : ℕ) → first_of p ≡ Some f → 0 < ticket_of p
    → Bounded m (turn_of active) (code_of active) (get_or grant (room_of p) 0) key (room_of p)
    (ticket_of p) f

-- the room that a scan has come to exists
abbrev pub Named : ℕ → Phase → Type 0
Named m (Peering room turn k w) = k < m
Named m (Scanning room turn k) = k < m
Named m _ = Unit {0}

pub record Due (m : ℕ) (s : Words) (ps : List Phase) : Type 0 where
  pub rooms : length s.wait ≡ m
  pub code : code_of s.active ≤ m
  pub key : Phase
  pub key_is : (d : ℕ) → is_keeper (phase ps d) ≡ true → phase ps d ≡ key
  pub held : is_keeper key ≡ true → (d : ℕ) × (phase ps d ≡ key)
  pub each : (d : ℕ) → DueAt m s.active s.grant key (phase ps d)
  pub named : (d : ℕ) → Named m (phase ps d)

pub ticket_drawn : (s : Words) (now : Bool) (p : Phase)
    → ((r : ℕ) → get_or s.grant r 0 ≤ get_or s.wait r 0) → Fits s now p → 0 < ticket_of p
    → ticket_of p ≤ get_or s.wait (room_of p) 0
ticket_drawn s now (Looking room ticket first) g f h = f.drawn
ticket_drawn s now (Glancing room ticket first) g f h = f.drawn
ticket_drawn s now (Seizing room ticket first idle) g f h = f.0.drawn
ticket_drawn s now (Counting room ticket first turn) g f h = f.drawn
ticket_drawn s now (Admitting room ticket first turn to) g f h = f.0.drawn
ticket_drawn s now (Turning room ticket first to) g f h = omega (arith, f.granted, g room)
ticket_drawn s now (Inside room ticket first turn to) g f h = omega (arith, f.0.granted, g room)
ticket_drawn s now _ g f h = absurd (omega arith)

-- what a step does to the bound of each ticket
abbrev pub Conv : ℕ → Words → Words → Phase → Phase → Type 0
Conv m s s' key key' =
    (q t f : ℕ) → q < m → 0 < t → t ≤ get_or s.wait q 0
    → (((r : ℕ) → get_or s.done r 0 ≡ get_or s.grant r 0) → get_or s.grant q 0 < t)
    → Bounded m (turn_of s.active) (code_of s.active) (get_or s.grant q 0) key q t f
    → Bounded m (turn_of s'.active) (code_of s'.active) (get_or s'.grant q 0) key' q t f

pub conv_at : (m : ℕ) (s s' : Words) (ps : List Phase) (tr : List Item) (key key' : Phase)
    → Inv s ps tr → length s.wait ≡ m → Conv m s s' key key' → (d : ℕ)
    → DueAt m s.active s.grant key (phase ps d) → DueAt m s'.active s'.grant key' (phase ps d)
conv_at m s s' ps tr key key' i e k d due f ef pos =
    let low = ticket_drawn s (is_exiting tr) (phase ps d) i.granted (i.each d) pos in
    k (room_of (phase ps d)) (ticket_of (phase ps d)) f
    (omega (arith, within s.wait (room_of (phase ps d)) (omega (arith, low, pos)), e)) pos low
    (λ shut. late s ps tr i shut d pos) (due f ef pos)

-- the key passes to c's new phase, or is given up
pub due_key : (m : ℕ) (s s' : Words) (ps : List Phase) (tr : List Item) (c : ℕ) (p : Phase)
    → Inv s ps tr → c < length ps → (d : Due m s ps)
    → length s'.wait ≡ m → code_of s'.active ≤ m
    → ((b : ℕ) → b ≢ c → is_keeper (phase ps b) ≡ true → ⊥)
    → DueAt m s'.active s'.grant p p → Conv m s s' d.key p → Named m p
    → Due m s' (set ps c p)
due_key m s s' ps tr c p i h d rooms code none mine k n = record {
  named = each_set (λ _ q. Named m q) ps c p Out h n (λ b _. d.named b);
  rooms = rooms;
  code = code;
  key = p;
  key_is =
      each_set (λ b q. is_keeper q ≡ true → q ≡ p) ps c p Out h (λ _. refl)
      (λ b ne kb. absurd (none b ne kb));
  held = λ _. (c, get_or-set_same ps c p Out h);
  each =
      each_set (λ _ q. DueAt m s'.active s'.grant p q) ps c p Out h mine
      (λ b _. conv_at m s s' ps tr d.key p i d.rooms k b (d.each b));
}

-- somebody moves who hasn't the key, and leaves the active word and the grants
pub due_same : (m : ℕ) (s : Words) (wait done : List ℕ) (ps : List Phase) (c : ℕ) (old p : Phase)
    → c < length ps → phase ps c ≡ old → (d : Due m s ps)
    → length wait ≡ m → is_keeper old ≡ false → is_keeper p ≡ false
    → DueAt m s.active s.grant d.key p → Named m p
    → Due m (record { active = s.active; wait = wait; grant = s.grant; done = done }) (set ps c p)
due_same m s wait done ps c old p h e d rooms ko kp mine n = record {
  named = each_set (λ _ q. Named m q) ps c p Out h n (λ b _. d.named b);
  rooms = rooms;
  code = d.code;
  key = d.key;
  key_is =
      each_set (λ b q. is_keeper q ≡ true → q ≡ d.key) ps c p Out h (λ kq. absurd (cc))
      (λ b _. d.key_is b);
  held = λ kk. let w = d.held kk in (
    w.0,
    get_or-set_other ps c w.0 p Out
        (λ same.
        absurd
        (let a : is_keeper (phase ps w.0) ≡ true = ap is_keeper w.1 ∙ kk in
        let b : is_keeper (phase ps w.0) ≡ false =
        ap (λ x. is_keeper (phase ps x)) same ∙ ap is_keeper e ∙ ko in
        cc))
        ∙ w.1,
  );
  each = each_set (λ _ q. DueAt m s.active s.grant d.key q) ps c p Out h mine (λ b _. d.each b);
}

pub plain_bound : (m turn code q t f : ℕ) (key : Phase) → is_keeper key ≡ false
    → BoundBy m turn code q t f key → turn + ahead m code q ≤ f + m
plain_bound m turn code q t f Out e b = b
plain_bound m turn code q t f (Looking _ _ _) e b = b
plain_bound m turn code q t f (Glancing _ _ _) e b = b
plain_bound m turn code q t f (Seizing _ _ _ _) e b = b
plain_bound m turn code q t f (Turning _ _ _ _) e b = b
plain_bound m turn code q t f (Inside _ _ _ _ _) e b = b
plain_bound m turn code q t f _ e b = absurd (cc)

-- a first look at this very turn is bounded whatever the key's holder has passed
pub fresh : (m turn code q t : ℕ) (key : Phase) → ahead m code q ≤ m
    → BoundBy m turn code q t turn key
fresh m turn code q t (Counting _ _ _ _) h = (omega arith, λ _. omega arith)
fresh m turn code q t (Admitting _ _ _ _ _) h = (omega arith, λ _. omega arith, λ _. omega arith)
fresh m turn code q t (Peering _ _ _ _) h = (omega arith, λ _. omega arith, λ _ _. omega arith)
fresh m turn code q t (Scanning _ _ _) h = (omega arith, λ _. omega arith)
fresh m turn code q t (Passing _ (Some _)) h = (omega arith, λ _. omega arith)
fresh m turn code q t (Passing _ None) h = omega arith
fresh m turn code q t Out h = omega arith
fresh m turn code q t (Looking _ _ _) h = omega arith
fresh m turn code q t (Glancing _ _ _) h = omega arith
fresh m turn code q t (Seizing _ _ _ _) h = omega arith
fresh m turn code q t (Turning _ _ _ _) h = omega arith
fresh m turn code q t (Inside _ _ _ _ _) h = omega arith
fresh m turn code q t (Exiting _ _) h = omega arith

pub ahead_low : (m code q : ℕ) → 0 < code → code ≤ m → q < m
    → (0 < ahead m code q) × (ahead m code q ≤ m)
ahead_low m code q a b c =
    let h = ahead_is m code q b in
    elim (cases_lt q code)
    [ inl l ↦ (omega (arith, h.1 l), omega (arith, h.1 l)) | inr g ↦ (omega (arith, h.0 g), omega (arith, h.0 g)) ]

pub ahead_same : (m code q k : ℕ) → 0 < code → code ≤ m → q < m → k < m
    → ahead m code q ≡ ahead m code k → q ≡ k
ahead_same m code q k a b c d e =
    let h = ahead_is m code q b in let g = ahead_is m code k b in
    elim (cases_lt q code) [
      | inl l ↦ elim (cases_lt k code) [ inl l' ↦ omega (arith, h.1 l, g.1 l') | inr g' ↦ absurd (omega (arith, h.1 l, g.0 g')) ]
      | inr u ↦ elim (cases_lt k code) [ inl l' ↦ absurd (omega (arith, h.0 u, g.1 l')) | inr g' ↦ omega (arith, h.0 u, g.0 g') ]
    ]

-- the room with this code comes last
pub ahead_last : (m room q : ℕ) → room < m → q < m → m ≤ ahead m (suc room) q → q ≡ room
ahead_last m room q a b h =
    let g = ahead_is m (suc room) q (omega arith) in
    elim (cases_lt q (suc room))
    [ inl l ↦ omega (arith, g.1 l) | inr u ↦ absurd (omega (arith, g.0 u)) ]

pub ahead_self : (m room : ℕ) → room < m → ahead m (suc room) room ≡ m
ahead_self m room a =
    let g = ahead_is m (suc room) room (omega arith) in omega (arith, g.1 (omega arith))

pub next_is : (k m : ℕ) → k < m
    → ((k + 1 < m) × ((k + 1) % m ≡ k + 1)) ⊎ ((k + 1 ≡ m) × ((k + 1) % m ≡ 0))
next_is k m h = elim (cases_lt (k + 1) m) [
  | inl l ↦ inl (l, mod-eq_of_lt l)
  | inr g ↦ (let e : k + 1 ≡ m = omega arith in inr (e, ap (λ v. v % m) e ∙ mod_self m))
]

pub next_ahead : (m room : ℕ) → room < m
    → ((room + 1) % m < m) × (ahead m (suc room) ((room + 1) % m) ≡ 1)
next_ahead m room h = elim (next_is room m h) [
  | inl l ↦ (omega (arith, l.0, l.1), (let g = ahead_is m (suc room) ((room + 1) % m) (omega arith) in omega (arith, l.1, g.0 (omega (arith, l.1)))))
  | inr g ↦ (omega (arith, g.1), (let a = ahead_is m (suc room) ((room + 1) % m) (omega arith) in omega (arith, g.0, g.1, a.1 (omega (arith, g.1)))))
]

pub next_further : (m room k : ℕ) → room < m → k < m → (k ≡ room → ⊥)
    → ((k + 1) % m < m) × (ahead m (suc room) ((k + 1) % m) ≡ ahead m (suc room) k + 1)
next_further m room k hr hk ne =
    let a =
    ahead_is m (suc room) k (omega arith) in let b = ahead_is m (suc room) ((k + 1) % m)
    (omega arith) in
    elim (next_is k m hk) [
      | inl l ↦ (
        omega (arith, l.0, l.1),
        elim (cases_lt k room) [
          | inl lt ↦ omega (arith, l.0, l.1, a.1 (omega (arith, lt)), b.1 (omega (arith, lt, l.1)))
          | inr ge ↦ (let gt : room < k = omega (arith, ge, λ (q : k ≡ room). ne q) in omega (arith, l.0, l.1, a.0 gt, b.0 (omega (arith, gt, l.1))))
        ],
      )
      | inr e ↦ (omega (arith, e.1), (let gt : room < k = omega (arith, e.0, λ (q : k ≡ room). ne q) in omega (arith, e.0, e.1, a.0 gt, b.1 (omega (arith, e.1)))))
    ]

pub next_ahead_at : (m len code room : ℕ) → len ≡ m → code ≡ suc room → room < m
    → ((room + 1) % len < m) × (ahead m code ((room + 1) % len) ≡ 1)
next_ahead_at m len code room l e h = rw (l, e) (next_ahead m room h)

pub next_further_at : (m len code room k : ℕ) → len ≡ m → code ≡ suc room → room < m → k < m
    → (k ≡ room → ⊥) → ((k + 1) % len < m) × (ahead m code ((k + 1) % len) ≡ ahead m code k + 1)
next_further_at m len code room k l e hr hk ne = rw (l, e) (next_further m room k hr hk ne)

pub ahead_last_at : (m code room q : ℕ) → code ≡ suc room → room < m → q < m → m ≤ ahead m code q
    → q ≡ room
ahead_last_at m code room q e a b h = ahead_last m room q a b (rw e at h)

pub ahead_self_at : (m code room : ℕ) → code ≡ suc room → room < m → ahead m code room ≡ m
ahead_self_at m code room e a = rw e (ahead_self m room a)

pub ahead_cases : (m code q : ℕ) → code ≤ m
    → ((code ≤ q) × (ahead m code q + code ≡ q + 1)) ⊎ ((q < code) × (ahead m code q + code ≡ q + 1 + m))
ahead_cases m code q h =
    elim (cases_lt q code)
    [ inl l ↦ inr (l, (ahead_is m code q h).1 l) | inr g ↦ inl (g, (ahead_is m code q h).0 g) ]

-- from room k on it is as much less far as k was ahead
pub ahead_less : (m code next q k : ℕ) → 0 < code → code ≤ m → next ≡ suc k → q < m → k < m
    → ahead m code k ≤ ahead m code q → ahead m next q < m
    → ahead m next q + ahead m code k ≤ ahead m code q
ahead_less m code next q k a b e hq hk le lt =
    omega (
      arith,
      ahead_cases m code q b,
      ahead_cases m code k b,
      ahead_cases m next q (omega (arith, e, hk)),
    )
