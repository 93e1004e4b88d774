-- What holds of the state and the trace at every moment.
use Rattle.std.proofs.Common.{◌≡◌, ℕ, suc, ◌+◌, ◌<◌, ◌≤◌, Bool, true, false, cond, List, length, get_or, Option, Some, None, IfSome, eqb, ltb, ◌&&◌}
use Rattle.std.specs.List.{sum_by}
use Rattle.room_core.specs.declared.phases.Phase.{Phase}
use Rattle.room_core.specs.declared.phases.Phase.TheVariants.{Out, Looking, Glancing, Seizing, Counting, Admitting, Turning, Inside, Exiting, Peering, Scanning, Passing}
use Rattle.room_core.specs.declared.items.Item.{Item}
use Rattle.room_core.specs.Words.{Words}
use Rattle.room_core.specs.Active.{turn_of, code_of}
use Rattle.room_core.specs.Trace.{occupant, last_room, is_closing, is_exiting}

-- the ticket that a caller holds, or 0, and its room
abbrev pub ticket_of : Phase → ℕ
ticket_of (Looking room ticket first) = ticket
ticket_of (Glancing room ticket first) = ticket
ticket_of (Seizing room ticket first idle) = ticket
ticket_of (Counting room ticket first turn) = ticket
ticket_of (Admitting room ticket first turn to) = ticket
ticket_of (Turning room ticket first to) = ticket
ticket_of (Inside room ticket first turn to) = ticket
ticket_of _ = 0

abbrev pub room_of : Phase → ℕ
room_of (Looking room ticket first) = room
room_of (Glancing room ticket first) = room
room_of (Seizing room ticket first idle) = room
room_of (Counting room ticket first turn) = room
room_of (Admitting room ticket first turn to) = room
room_of (Turning room ticket first to) = room
room_of (Inside room ticket first turn to) = room
room_of _ = 0

abbrev pub is_keeper : Phase → Bool
is_keeper (Counting room ticket first turn) = true
is_keeper (Admitting room ticket first turn to) = true
is_keeper (Exiting room turn) = true
is_keeper (Peering room turn k w) = true
is_keeper (Scanning room turn k) = true
is_keeper (Passing turn next) = true
is_keeper _ = false

-- the room that the phase says is occupied
abbrev pub room_inside : Phase → Option ℕ
room_inside (Inside room ticket first turn to) = Some room
room_inside _ = None

-- 1 where the phase holds a ticket of room r above x
abbrev pub above : ℕ → ℕ → Phase → ℕ
above r x p = cond (eqb (room_of p) r && ltb x (ticket_of p)) 1 0

abbrev pub holders : List Phase → ℕ → ℕ → ℕ
holders ps r x = sum_by (above r x) ps

abbrev pub phase : List Phase → ℕ → Phase
phase ps c = get_or ps c Out

pub record Waits (s : Words) (room ticket : ℕ) : Type 0 where
  pub some : 0 < ticket
  pub drawn : ticket ≤ get_or s.wait room 0

pub record Admitted (s : Words) (room ticket to : ℕ) : Type 0 where
  pub some : 0 < ticket
  pub granted : ticket ≤ get_or s.grant room 0
  pub to_is : to ≡ get_or s.grant room 0

-- the one who has the key, while nobody is inside
pub record Keeps (s : Words) (now : Bool) (turn : ℕ) (exiting : Bool) : Type 0 where
  pub turn_is : turn ≡ turn_of s.active
  pub busy : 0 < code_of s.active
  pub shut : (r : ℕ) → get_or s.done r 0 ≡ get_or s.grant r 0
  pub exit : now ≡ exiting

pub record Opens (s : Words) (now : Bool) (room ticket turn : ℕ) : Type 0 where
  pub keeps : Keeps s now turn false
  pub code : code_of s.active ≡ suc room
  pub more : get_or s.grant room 0 < get_or s.wait room 0
  pub late : 0 < ticket → get_or s.grant room 0 < ticket
  pub drawn : ticket ≤ get_or s.wait room 0

abbrev pub Fits : Words → Bool → Phase → Type 0
Fits s now Out = Unit {0}
Fits s now (Looking room ticket first) = Waits s room ticket
Fits s now (Glancing room ticket first) = Waits s room ticket
Fits s now (Seizing room ticket first idle) = Waits s room ticket × (code_of idle ≡ 0)
Fits s now (Counting room ticket first turn) = Opens s now room ticket turn
Fits s now (Admitting room ticket first turn to) =
    Opens s now room ticket turn × (get_or s.grant room 0 < to) × (ticket ≤ to) ×
    (to ≤ get_or s.wait room 0)
Fits s now (Turning room ticket first to) = Admitted s room ticket to
Fits s now (Inside room ticket first turn to) =
    Admitted s room ticket to × (turn ≡ turn_of s.active)
Fits s now (Exiting room turn) = Keeps s now turn true × (code_of s.active ≡ suc room)
Fits s now (Peering room turn k w) =
    Keeps s now turn false × (code_of s.active ≡ suc room) × (w ≤ get_or s.wait k 0)
Fits s now (Scanning room turn k) = Keeps s now turn false × (code_of s.active ≡ suc room)
Fits s now (Passing turn next) =
    Keeps s now turn false × IfSome next (λ k. get_or s.grant k 0 < get_or s.wait k 0)

pub record IsOpen (active : ℕ) (exiting closing : Bool) (last : Option ℕ) (r : ℕ) : Type 0 where
  pub code : code_of active ≡ suc r
  pub exit : exiting ≡ false
  pub close : closing ≡ false
  pub last_is : last ≡ Some r

pub record Inv (s : Words) (ps : List Phase) (t : List Item) : Type 0 where
  pub each : (c : ℕ) → Fits s (is_exiting t) (phase ps c)
  pub one : (c d : ℕ) → is_keeper (phase ps c) ≡ true → is_keeper (phase ps d) ≡ true → c ≡ d
  pub open_room : (r : ℕ) → get_or s.done r 0 < get_or s.grant r 0
      → IsOpen s.active (is_exiting t) (is_closing t) (last_room t) r
  pub idle : code_of s.active ≡ 0 → is_exiting t ≡ false
  pub occupied : (c : ℕ) → occupant c t ≡ room_inside (phase ps c)
  pub granted : (r : ℕ) → get_or s.grant r 0 ≤ get_or s.wait r 0
  pub total : (r : ℕ) → holders ps r 0 + get_or s.done r 0 ≡ get_or s.wait r 0
  pub later : (r x : ℕ) → get_or s.grant r 0 ≤ x → x ≤ get_or s.wait r 0
      → holders ps r x + x ≡ get_or s.wait r 0
  pub grants : length s.grant ≡ length s.wait
  pub dones : length s.done ≡ length s.wait
  pub few : length s.wait ≤ 7
