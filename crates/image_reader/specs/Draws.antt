-- Draws: numbers that follow one another by rule from a start below 2 ^ 31.
use Rattle.std.specs.Prelude.{ℕ, zero, suc, ◌+◌, ◌*◌, ◌/◌, ◌%◌, ◌^◌, List, map}
use Rattle.std.specs.List.{range_with_len}

-- one draw replaces the number by 1103515245 times the number and 12345 more, modulo 2 ^ 31
abbrev pub next : ℕ → ℕ
next number = (1103515245 * number + 12345) % 2 ^ 31

-- the number after so many draws
abbrev pub after : ℕ → ℕ → ℕ
after start zero = start
after start (suc count) = next (after start count)

-- the draw that has so many before it gives the number that it leaves, divided by 256
abbrev pub draw : ℕ → ℕ → ℕ
draw start before = next (after start before) / 256

-- what so many draws give, of which the first has so many before it
abbrev pub draws : ℕ → ℕ → ℕ → List ℕ
draws start before count = map (draw start) (range_with_len before count)
