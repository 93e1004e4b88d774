-- The table of rows: what each step of a caller finds and does, and what it leads to.
use Rattle.std.specs.Prelude.{ℕ, zero, suc, ◌+◌, ◌%◌, ◌==◌, nat_lt, nat_le, if◌then◌else◌, Option, Some, None}
use Rattle.room_core.specs.declared.words.Word.{Word}
use Rattle.room_core.specs.declared.words.Word.TheVariants.{Wait, Grant, Done, Active}
use Rattle.room_core.specs.declared.words.Touch.{Touch}
use Rattle.room_core.specs.declared.words.Touch.TheVariants.{Add, Load, Store, Swap}
use Rattle.room_core.specs.declared.items.Item.{Item}
use Rattle.room_core.specs.declared.items.Item.TheVariants.{Opened, Entered, Left, ExitBegun, ExitEnded}
use Rattle.room_core.specs.declared.phases.Phase.{Phase}
use Rattle.room_core.specs.declared.phases.Phase.TheVariants.{Out, Looking, Glancing, Seizing, Counting, Admitting, Turning, Inside, Exiting, Peering, Scanning, Passing}
use Rattle.room_core.specs.Active.{turn_of, code_of, pack, seen}

-- what a step does to its word
pub data Kind : Type 0 where
  Adds : Kind
  Loads : Kind
  Stores : ℕ → Kind
  Swaps : ℕ → ℕ → Kind

-- the step that finds n, and what the word is after it
abbrev pub touch_of : Kind → Word → ℕ → Touch
touch_of Adds word n = Add word n
touch_of Loads word n = Load word n
touch_of (Stores v) word n = Store word v
touch_of (Swaps old new) word n = Swap n new (n == old)

-- what such a step leaves in a word that held n
abbrev pub value_of : Kind → ℕ → ℕ
value_of Adds n = n + 1
value_of Loads n = n
value_of (Stores v) n = v
value_of (Swaps old new) n = if n == old then new else n

-- One row: the word that is stepped on, what is done to it, and, of the number found there, the
-- next phase and what the trace gains
pub record Move : Type 0 where
  pub word : Word
  pub kind : Kind
  pub next : ℕ → Phase
  pub one : ℕ → Option Item
  pub two : ℕ → Option Item

-- the trace gains nothing
abbrev pub silent : ℕ → Option Item
silent n = None

-- out: draws a ticket of room r
abbrev pub drawing_move : ℕ → Move
drawing_move r = record {
  word = Wait r;
  kind = Adds;
  next = λ n. Looking r (n + 1) None;
  one = silent;
  two = silent;
}

-- inside: counts itself out; who makes up the last ticket begins the exit code
abbrev pub leaving_move : ℕ → ℕ → ℕ → ℕ → Move
leaving_move c room turn to = record {
  word = Done room;
  kind = Adds;
  next = λ n. if n + 1 == to then Exiting room turn else Out;
  one = λ n. Some (Left c);
  two = λ n. if n + 1 == to then Some (ExitBegun room) else None;
}

-- who stored a grant enters with its ticket; a ticket of 0 is of one that is leaving
abbrev pub let_in : ℕ → ℕ → Option ℕ → ℕ → ℕ → Phase
let_in room zero first turn to = Out
let_in room (suc ticket) first turn to = Inside room (suc ticket) first turn to

-- who holds a ticket enters
abbrev pub enters_with : ℕ → ℕ → ℕ → Option Item
enters_with c room zero = None
enters_with c room (suc ticket) = Some (Entered c room)

-- looking: loads the grant, and is let in if its ticket is no larger
abbrev pub looking_move : ℕ → ℕ → Option ℕ → Move
looking_move room ticket first = record {
  word = Grant room;
  kind = Loads;
  next = λ n. if nat_le ticket n then Turning room ticket first n else Glancing room ticket first;
  one = silent;
  two = silent;
}

-- glancing: loads the active word, and tries to open its room where it is idle
abbrev pub glancing_move : ℕ → ℕ → Option ℕ → Move
glancing_move room ticket first = record {
  word = Active;
  kind = Loads;
  next = λ n.
      if code_of n == 0 then Seizing room ticket (seen first n) n else Looking room ticket (seen first n);
  one = silent;
  two = silent;
}

-- seizing: opens its room in the next turn, if the active word is still the idle one that it saw
abbrev pub seizing_move : ℕ → ℕ → Option ℕ → ℕ → Move
seizing_move room ticket first idle = record {
  word = Active;
  kind = Swaps idle (pack (turn_of idle + 1) (room + 1));
  next = λ n.
      if n == idle then Counting room ticket first (turn_of idle + 1) else Looking room ticket first;
  one = silent;
  two = silent;
}

-- counting: loads how many tickets of the room were drawn
abbrev pub counting_move : ℕ → ℕ → Option ℕ → ℕ → Move
counting_move room ticket first turn = record {
  word = Wait room;
  kind = Loads;
  next = λ n. Admitting room ticket first turn n;
  one = silent;
  two = silent;
}

-- admitting: stores the grant, which opens the room, and enters with its ticket
abbrev pub admitting_move : ℕ → ℕ → ℕ → Option ℕ → ℕ → ℕ → Move
admitting_move c room ticket first turn to = record {
  word = Grant room;
  kind = Stores to;
  next = λ n. let_in room ticket first turn to;
  one = λ n. Some (Opened turn room n to);
  two = λ n. enters_with c room ticket;
}

-- turning: loads the turn, and enters
abbrev pub turning_move : ℕ → ℕ → ℕ → Option ℕ → ℕ → Move
turning_move c room ticket first to = record {
  word = Active;
  kind = Loads;
  next = λ n. Inside room ticket (seen first n) (turn_of n) to;
  one = λ n. Some (Entered c room);
  two = silent;
}

-- exiting: ends the exit code, and loads the wait of the next room
abbrev pub exiting_move : ℕ → ℕ → ℕ → Move
exiting_move m room turn = record {
  word = Wait ((room + 1) % m);
  kind = Loads;
  next = λ n. Peering room turn ((room + 1) % m) n;
  one = λ n. Some (ExitEnded room);
  two = silent;
}

-- peering: loads the grant of room k, and knows whether somebody waits there
abbrev pub peering_move : ℕ → ℕ → ℕ → ℕ → ℕ → Move
peering_move m room turn k w = record {
  word = Grant k;
  kind = Loads;
  next = λ n.
      if nat_lt n w then Passing turn (Some k)
      else if k == room then Passing turn None else Scanning room turn ((k + 1) % m);
  one = silent;
  two = silent;
}

-- scanning: loads the wait of room k
abbrev pub scanning_move : ℕ → ℕ → ℕ → Move
scanning_move room turn k = record {
  word = Wait k;
  kind = Loads;
  next = λ n. Peering room turn k n;
  one = silent;
  two = silent;
}

-- passing: stores the active word, for the room found or idle
abbrev pub passing_move : ℕ → Option ℕ → Move
passing_move turn (Some k) = record {
  word = Active;
  kind = Stores (pack (turn + 1) (k + 1));
  next = λ n. Counting k 0 None (turn + 1);
  one = silent;
  two = silent;
}
passing_move turn None = record {
  word = Active;
  kind = Stores (pack turn 0);
  next = λ n. Out;
  one = silent;
  two = silent;
}

-- a step in a phase, or none
abbrev pub move : ℕ → ℕ → Phase → Option Move
move m c Out = None
move m c (Looking room ticket first) = Some (looking_move room ticket first)
move m c (Glancing room ticket first) = Some (glancing_move room ticket first)
move m c (Seizing room ticket first idle) = Some (seizing_move room ticket first idle)
move m c (Counting room ticket first turn) = Some (counting_move room ticket first turn)
move m c (Admitting room ticket first turn to) = Some (admitting_move c room ticket first turn to)
move m c (Turning room ticket first to) = Some (turning_move c room ticket first to)
move m c (Inside room ticket first turn to) = None
move m c (Exiting room turn) = Some (exiting_move m room turn)
move m c (Peering room turn k w) = Some (peering_move m room turn k w)
move m c (Scanning room turn k) = Some (scanning_move room turn k)
move m c (Passing turn next) = Some (passing_move turn next)
