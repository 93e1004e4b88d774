-- What the word `active` holds: a turn, and a code. The code 0 is idle, and r + 1 is room r.
use Rattle.std.specs.Prelude.{ℕ, ◌+◌, ◌*◌, ◌/◌, ◌%◌, Option, Some, None}

-- the turn of an active word
abbrev pub turn_of : ℕ → ℕ
turn_of word = word / 8

-- its code: 0, or one more than the room
abbrev pub code_of : ℕ → ℕ
code_of word = word % 8

-- the active word of a turn and a code
abbrev pub pack : ℕ → ℕ → ℕ
pack turn code = 8 * turn + code

-- the turn of the first load of `active` after the draw
abbrev pub seen : Option ℕ → ℕ → Option ℕ
seen None word = Some (turn_of word)
seen (Some turn) word = Some turn
