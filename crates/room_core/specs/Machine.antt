-- The machine: a state, and what one act of one caller does.
use Rattle.std.specs.Prelude.{ℕ, ◌+◌, ◌%◌, ◌^◌, ◌==◌, nat_lt, if◌then◌else◌, List, length, slice_index, slice_index_or, slice_set, Option, Some, None, Result, Ok, Err}
use Rattle.room_core.specs.declared.acts.Act.{Act}
use Rattle.room_core.specs.declared.acts.Act.TheVariants.{Draw, Step, Leave}
use Rattle.room_core.specs.declared.acts.Refused.{Refused}
use Rattle.room_core.specs.declared.acts.Refused.TheVariants.{NoCaller, NoRoom, NotFree, NotIn, Stuck, Spent}
use Rattle.room_core.specs.declared.words.Touch.{Touch}
use Rattle.room_core.specs.declared.items.Event.{Event}
use Rattle.room_core.specs.declared.phases.Phase.{Phase}
use Rattle.room_core.specs.declared.phases.Phase.TheVariants.{Out, Inside}
use Rattle.room_core.specs.Words.{Words, touched, held}
use Rattle.room_core.specs.Moves.{Move, touch_of, drawing_move, leaving_move, move}

-- the words, each caller's phase, and how many tickets each drew
pub record State : Type 0 where
  pub words : Words
  pub phases : List Phase
  pub draws : List ℕ

-- the phase of a caller; one that there is not is out
abbrev pub phase_of : State → ℕ → Phase
phase_of s c = slice_index_or s.phases c Out

-- what a row leads to: the next phase, and the event
abbrev pub Row : Type 0
Row = Phase × Event

-- a row whose event adds nothing to the trace
abbrev pub quiet : Phase → Touch → Row
quiet p touch = (p, record { touch = touch; one = None; two = None })

-- the row at the number that is found
abbrev pub made_at : Move → ℕ → Row
made_at v n = (v.next n, record { touch = touch_of v.kind v.word n; one = v.one n; two = v.two n })

-- the row of a move, at the number that its word holds
abbrev pub made : Words → Move → Row
made s v = made_at v (held s v.word)

-- the row of a move, if there is one
abbrev pub made_if : Words → Option Move → Option Row
made_if s None = None
made_if s (Some v) = Some (made s v)

-- the row of a draw of room r
abbrev pub drawing : Words → ℕ → Row
drawing s r = made s (drawing_move r)

-- the row of a caller that leaves its room
abbrev pub leaving : Words → ℕ → ℕ → ℕ → ℕ → Row
leaving s c room turn to = made s (leaving_move c room turn to)

-- the room after k, round
abbrev pub next_room : Words → ℕ → ℕ
next_room s k = (k + 1) % length s.wait

-- the row of a step in a phase, if there is one
abbrev pub stepping : Words → ℕ → Phase → Option Row
stepping s c p = made_if s (move (length s.wait) c p)

-- without a row a step is refused
abbrev pub or_stuck : Option Row → Result Row Refused
or_stuck None = Err Stuck
or_stuck (Some row) = Ok row

-- a draw of a room that there is: by a caller that is out and has draws left
abbrev pub drawing_from : State → ℕ → ℕ → Phase → Result Row Refused
drawing_from s c r Out =
    if slice_index s.draws c == 2 ^ 48 then Err Spent else Ok (drawing s.words r)
drawing_from s c r _ = Err NotFree

-- leaving: by a caller that is inside
abbrev pub leaving_from : State → ℕ → Phase → Result Row Refused
leaving_from s c (Inside room ticket first turn to) = Ok (leaving s.words c room turn to)
leaving_from s c _ = Err NotIn

-- the row of an act of a caller that there is, or its refusal
abbrev pub acting : State → ℕ → Phase → Act → Result Row Refused
acting s c p (Draw r) = if nat_lt r (length s.words.wait) then drawing_from s c r p else Err NoRoom
acting s c p Step = or_stuck (stepping s.words c p)
acting s c p Leave = leaving_from s c p

-- the row of an act, or its refusal
abbrev pub row_of : State → ℕ → Act → Result Row Refused
row_of s c act = if nat_lt c (length s.phases) then acting s c (phase_of s c) act else Err NoCaller

-- how many tickets each drew, after an act of c
abbrev pub draws_after : List ℕ → ℕ → Act → List ℕ
draws_after draws c (Draw r) = slice_set draws c (slice_index draws c + 1)
draws_after draws c Step = draws
draws_after draws c Leave = draws

-- the state after a row of c
abbrev pub after : State → ℕ → Act → Row → State
after s c act row = record {
  words = touched s.words row.1.touch;
  phases = slice_set s.phases c row.0;
  draws = draws_after s.draws c act;
}
