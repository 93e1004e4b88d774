-- The rows as a relation, one constructor for each outcome.
use Rattle.std.proofs.Common.{◌≡◌, ◌≢◌, ℕ, zero, suc, ◌+◌, ◌^◌, ◌<◌, ◌≤◌, Bool, true, false, cond, length, get_or, Option, Some, None, Result, Ok, Err, refl, subst, eqb, ltb, leb}
use Rattle.std.proofs.lemmas.Bool.{cond_both, leb-true, leb-false, ltb-true, ltb-false, eqb-true, eqb-false}
use Rattle.room_core.specs.declared.acts.Act.{Act}
use Rattle.room_core.specs.declared.acts.Act.TheVariants.{Draw, Step, Leave}
use Rattle.room_core.specs.declared.phases.Phase.{Phase}
use Rattle.room_core.specs.declared.phases.Phase.TheVariants.{Out, Looking, Glancing, Seizing, Counting, Admitting, Turning, Inside, Exiting, Peering, Scanning, Passing}
use Rattle.room_core.specs.declared.items.Item.TheVariants.{Opened, Entered, Left, ExitBegun, ExitEnded}
use Rattle.room_core.specs.declared.words.Touch.TheVariants.{Add, Load, Store, Swap}
use Rattle.room_core.specs.declared.words.Word.TheVariants.{Wait, Grant, Done, Active}
use Rattle.room_core.specs.declared.acts.Refused.{Refused}
use Rattle.room_core.specs.declared.acts.Refused.TheVariants.{NoCaller, NoRoom, Spent}
use Rattle.room_core.specs.Words.{Words}
use Rattle.room_core.specs.Machine.{State, Row, quiet, next_room, drawing, stepping, or_stuck, drawing_from, leaving_from, acting, row_of, phase_of}
use Rattle.room_core.specs.Runs.{World, carried, happens}
use Rattle.room_core.specs.Active.{turn_of, code_of, pack, seen}

pub data Went (c : ℕ) (s : Words) : Phase → Act → Row → Type 0 where
  drawn : (r : ℕ) → r < length s.wait
      → Went c s Out (Draw r) (quiet (Looking r (get_or s.wait r 0 + 1) None) (Add (Wait r) (get_or s.wait r 0)))
  found : (room ticket : ℕ) (first : Option ℕ) → ticket ≤ get_or s.grant room 0
      → Went c s (Looking room ticket first) Step (quiet (Turning room ticket first (get_or s.grant room 0)) (Load (Grant room) (get_or s.grant room 0)))
  missed : (room ticket : ℕ) (first : Option ℕ) → get_or s.grant room 0 < ticket
      → Went c s (Looking room ticket first) Step (quiet (Glancing room ticket first) (Load (Grant room) (get_or s.grant room 0)))
  saw_idle : (room ticket : ℕ) (first : Option ℕ) → code_of s.active ≡ 0
      → Went c s (Glancing room ticket first) Step (quiet (Seizing room ticket (seen first s.active) s.active) (Load Active s.active))
  saw_busy : (room ticket : ℕ) (first : Option ℕ)
      → Went c s (Glancing room ticket first) Step (quiet (Looking room ticket (seen first s.active)) (Load Active s.active))
  won : (room ticket : ℕ) (first : Option ℕ)
      → Went c s (Seizing room ticket first s.active) Step (quiet (Counting room ticket first (turn_of s.active + 1)) (Swap s.active (pack (turn_of s.active + 1) (room + 1)) true))
  lost : (room ticket : ℕ) (first : Option ℕ) (idle : ℕ)
      → Went c s (Seizing room ticket first idle) Step (quiet (Looking room ticket first) (Swap s.active (pack (turn_of idle + 1) (room + 1)) false))
  counted_wait : (room ticket : ℕ) (first : Option ℕ) (turn : ℕ)
      → Went c s (Counting room ticket first turn) Step (quiet (Admitting room ticket first turn (get_or s.wait room 0)) (Load (Wait room) (get_or s.wait room 0)))
  opened : (room : ℕ) (first : Option ℕ) (turn to : ℕ)
      → Went c s (Admitting room 0 first turn to) Step (Out, record { touch = Store (Grant room) to; one = Some (Opened turn room (get_or s.grant room 0) to); two = None })
  opened_in : (room ticket : ℕ) (first : Option ℕ) (turn to : ℕ)
      → Went c s (Admitting room (suc ticket) first turn to) Step (
        Inside room (suc ticket) first turn to,
        record {
          touch = Store (Grant room) to;
          one = Some (Opened turn room (get_or s.grant room 0) to);
          two = Some (Entered c room);
        },
      )
  entered : (room ticket : ℕ) (first : Option ℕ) (to : ℕ)
      → Went c s (Turning room ticket first to) Step (Inside room ticket (seen first s.active) (turn_of s.active) to, record { touch = Load Active s.active; one = Some (Entered c room); two = None })
  left : (room ticket : ℕ) (first : Option ℕ) (turn to : ℕ) → (get_or s.done room 0 + 1 ≡ to → ⊥)
      → Went c s (Inside room ticket first turn to) Leave (Out, record { touch = Add (Done room) (get_or s.done room 0); one = Some (Left c); two = None })
  left_last : (room ticket : ℕ) (first : Option ℕ) (turn to : ℕ) → get_or s.done room 0 + 1 ≡ to
      → Went c s (Inside room ticket first turn to) Leave (
        Exiting room turn,
        record {
          touch = Add (Done room) (get_or s.done room 0);
          one = Some (Left c);
          two = Some (ExitBegun room);
        },
      )
  exited : (room turn : ℕ) → Went c s (Exiting room turn) Step (
    Peering room turn (next_room s room) (get_or s.wait (next_room s room) 0),
    record {
      touch = Load (Wait (next_room s room)) (get_or s.wait (next_room s room) 0);
      one = Some (ExitEnded room);
      two = None;
    },
  )
  chose : (room turn k w : ℕ) → get_or s.grant k 0 < w
      → Went c s (Peering room turn k w) Step (quiet (Passing turn (Some k)) (Load (Grant k) (get_or s.grant k 0)))
  ended : (room turn w : ℕ) → w ≤ get_or s.grant room 0
      → Went c s (Peering room turn room w) Step (quiet (Passing turn None) (Load (Grant room) (get_or s.grant room 0)))
  went_on : (room turn k w : ℕ) → w ≤ get_or s.grant k 0 → (k ≡ room → ⊥)
      → Went c s (Peering room turn k w) Step (quiet (Scanning room turn (next_room s k)) (Load (Grant k) (get_or s.grant k 0)))
  scanned : (room turn k : ℕ)
      → Went c s (Scanning room turn k) Step (quiet (Peering room turn k (get_or s.wait k 0)) (Load (Wait k) (get_or s.wait k 0)))
  passed : (turn k : ℕ)
      → Went c s (Passing turn (Some k)) Step (quiet (Counting k 0 None (turn + 1)) (Store Active (pack (turn + 1) (k + 1))))
  rested : (turn : ℕ) → Went c s (Passing turn None) Step (quiet Out (Store Active (pack turn 0)))

by_bool : (b : Bool) (P : Bool → Type 0) → (b ≡ true → P true) → (b ≡ false → P false) → P b
by_bool true P t f = t refl
by_bool false P t f = f refl

module _ (c : ℕ) (s : State) (P : Result Row Refused → Type 0) (stay : (why : Refused) → P (Err why)) where
  by_stepping : (p : Phase) → ((row : Row) → Went c s.words p Step row → P (Ok row))
      → P (or_stuck (stepping s.words c p))
  by_stepping Out go = stay _
  by_stepping (Inside room ticket first turn to) go = stay _
  by_stepping (Looking room ticket first) go =
      let g = get_or s.words.grant room 0 in
      by_bool (leb ticket g)
      (λ b.
      P
      (Ok
      (quiet (cond b (Turning room ticket first g) (Glancing room ticket first))
      (Load (Grant room) g))))
      (λ e. go _ (found room ticket first (leb-true ticket g e)))
      (λ e. go _ (missed room ticket first (leb-false ticket g e)))
  by_stepping (Glancing room ticket first) go =
      let a = s.words.active in
      by_bool (eqb (code_of a) 0)
      (λ b.
      P
      (Ok
      (quiet
      (cond b (Seizing room ticket (seen first a) a) (Looking room ticket (seen first a)))
      (Load Active a))))
      (λ e. go _ (saw_idle room ticket first (eqb-true (code_of a) 0 e)))
      (λ e. go _ (saw_busy room ticket first))
  by_stepping (Seizing room ticket first idle) go =
      by_bool (eqb s.words.active idle)
      (λ b.
      P
      (Ok
      (quiet
      (cond b (Counting room ticket first (turn_of idle + 1)) (Looking room ticket first))
      (Swap s.words.active (pack (turn_of idle + 1) (room + 1)) b))))
      (λ e. let Q : ℕ → Type 0 = λ i. ((row : Row) → Went c s.words (Seizing room ticket first i) Step row → P (Ok row)) → P (Ok (quiet (Counting room ticket first (turn_of i + 1)) (Swap s.words.active (pack (turn_of i + 1) (room + 1)) true))) in
      let q : Q s.words.active = λ y. y _ (won room ticket first) in subst Q (eqb-true s.words.active idle e) q go)
      (λ e. go _ (lost room ticket first idle))
  by_stepping (Counting room ticket first turn) go = go _ (counted_wait room ticket first turn)
  by_stepping (Admitting room zero first turn to) go = go _ (opened room first turn to)
  by_stepping (Admitting room (suc ticket) first turn to) go =
      go _ (opened_in room ticket first turn to)
  by_stepping (Turning room ticket first to) go = go _ (entered room ticket first to)
  by_stepping (Exiting room turn) go = go _ (exited room turn)
  by_stepping (Peering room turn k w) go =
      let g = get_or s.words.grant k 0 in
      by_bool (ltb g w)
      (λ b.
      P
      (Ok
      (quiet
      (cond b (Passing turn (Some k))
      (cond (eqb k room) (Passing turn None) (Scanning room turn (next_room s.words k))))
      (Load (Grant k) g))))
      (λ e. go _ (chose room turn k w (ltb-true g w e)))
      (λ e. by_bool (eqb k room) (λ b. P (Ok (quiet (cond b (Passing turn None) (Scanning room turn (next_room s.words k))) (Load (Grant k) g))))
      (λ e'. let Q : ℕ → Type 0 = λ r. ((row : Row) → Went c s.words (Peering r turn k w) Step row → P (Ok row)) → P (Ok (quiet (Passing turn None) (Load (Grant k) g))) in
      let q : Q k = λ y. y _ (ended k turn w (ltb-false g w e)) in subst Q (eqb-true k room e') q go)
      (λ e'. go _ (went_on room turn k w (ltb-false g w e) (eqb-false k room e'))))
  by_stepping (Scanning room turn k) go = go _ (scanned room turn k)
  by_stepping (Passing turn (Some k)) go = go _ (passed turn k)
  by_stepping (Passing turn None) go = go _ (rested turn)

  by_leaving : (p : Phase) → ((row : Row) → Went c s.words p Leave row → P (Ok row))
      → P (leaving_from s c p)
  by_leaving (Inside room ticket first turn to) go =
      let touch = Add (Done room) (get_or s.words.done room 0) in
      by_bool (eqb (get_or s.words.done room 0 + 1) to)
      (λ b.
      P
      (Ok (
        cond b (Exiting room turn) Out,
        record {
          touch = touch;
          one = Some (Left c);
          two = cond b (Some (ExitBegun room)) None;
        },
      )))
      (λ e.
      go _
      (left_last room ticket first turn to (eqb-true (get_or s.words.done room 0 + 1) to e)))
      (λ e. go _ (left room ticket first turn to (eqb-false (get_or s.words.done room 0 + 1) to e)))
  by_leaving _ go = stay _

  by_drawing : (r : ℕ) (p : Phase) → r < length s.words.wait
      → ((row : Row) → Went c s.words p (Draw r) row → P (Ok row)) → P (drawing_from s c r p)
  by_drawing r Out h go =
      cond_both (eqb (get_or s.draws c 0) (2 ^ 48)) (Err Spent) (Ok (drawing s.words r)) P
      (λ _. stay _) (λ _. go _ (drawn r h))
  by_drawing r _ h go = stay _

  by_acting : (act : Act) → ((row : Row) → Went c s.words (phase_of s c) act row → P (Ok row))
      → P (acting s c (phase_of s c) act)
  by_acting (Draw r) go =
      cond_both (ltb r (length s.words.wait)) (drawing_from s c r (phase_of s c)) (Err NoRoom) P
      (λ lt. by_drawing r (phase_of s c) (ltb-true r (length s.words.wait) lt) go) (λ _. stay _)
  by_acting Step go = by_stepping (phase_of s c) go
  by_acting Leave go = by_leaving (phase_of s c) go

  by_row : (act : Act)
      → (c < length s.phases → (row : Row) → Went c s.words (phase_of s c) act row → P (Ok row))
      → P (row_of s c act)
  by_row act go =
      cond_both (ltb c (length s.phases)) (acting s c (phase_of s c) act) (Err NoCaller) P
      (λ lt. by_acting act (go (ltb-true c (length s.phases) lt))) (λ _. stay _)

-- an act is refused, or it is one of the rows
pub by_happens : (w : World) (c : ℕ) (act : Act) (P : World → Type 0) → P w
    → (c < length w.state.phases → (row : Row) → Went c w.state.words (phase_of w.state c) act row → P (carried w c act (Ok row)))
    → P (happens w (c, act))
by_happens w c act P stay go = by_row c w.state (λ r. P (carried w c act r)) (λ _. stay) act go

-- the same, with the row's equation
pub by_row_is : (s : State) (c : ℕ) (act : Act) (P : Result Row Refused → Type 0)
    → ((why : Refused) → row_of s c act ≡ Err why → P (Err why))
    → (c < length s.phases → (row : Row) → row_of s c act ≡ Ok row
    → Went c s.words (phase_of s c) act row → P (Ok row))
    → P (row_of s c act)
by_row_is s c act P stay go =
    by_row c s (λ r. row_of s c act ≡ r → P r) stay act (λ h row went e. go h row e went) refl

pub by_happens_is : (w : World) (c : ℕ) (act : Act) (P : World → Type 0) → P w
    → (c < length w.state.phases → (row : Row) → row_of w.state c act ≡ Ok row
    → Went c w.state.words (phase_of w.state c) act row → P (carried w c act (Ok row)))
    → P (happens w (c, act))
by_happens_is w c act P stay go =
    by_row_is w.state c act (λ r. P (carried w c act r)) (λ _ _. stay) go

drawing_free : (s : State) (c r : ℕ) (p : Phase) (row : Row) → drawing_from s c r p ≡ Ok row
    → get_or s.draws c 0 ≢ 2 ^ 48
drawing_free s c r Out row e =
    by_bool (eqb (get_or s.draws c 0) (2 ^ 48))
    (λ b.
    eqb (get_or s.draws c 0) (2 ^ 48) ≡ b → cond b (Err Spent) (Ok (drawing s.words r)) ≡ Ok row
    → get_or s.draws c 0 ≢ 2 ^ 48)
    (λ _ _ q. absurd (cc)) (λ f _ _. eqb-false (get_or s.draws c 0) (2 ^ 48) f) refl e
drawing_free s c r _ row e = absurd (cc)

-- who drew had a draw left
pub draw_free : (s : State) (c r : ℕ) (row : Row) → row_of s c (Draw r) ≡ Ok row
    → get_or s.draws c 0 ≢ 2 ^ 48
draw_free s c r row e =
    by_bool (ltb c (length s.phases))
    (λ b.
    cond b (acting s c (phase_of s c) (Draw r)) (Err NoCaller) ≡ Ok row
    → get_or s.draws c 0 ≢ 2 ^ 48)
    (λ _. by_bool (ltb r (length s.words.wait)) (λ b. cond b (drawing_from s c r (phase_of s c)) (Err NoRoom) ≡ Ok row → get_or s.draws c 0 ≢ 2 ^ 48)
    (λ _. drawing_free s c r (phase_of s c) row) (λ _ q. absurd (cc)))
    (λ _ q. absurd (cc)) e
