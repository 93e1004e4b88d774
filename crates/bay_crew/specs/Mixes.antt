-- The calls of a crew.
use Rattle.std.specs.Prelude.{ℕ, ◌+◌, ◌*◌, ◌^◌, ◌/◌, ◌%◌, ◌==◌, ◌||◌, Bool, true, false, List, map, if◌then◌else◌}
use Rattle.std.specs.List.{range_with_len}
use Rattle.bay_core.specs.declared.calls.Layout.{Layout}
use Rattle.room_script.specs.Trials.{Outline}
use Rattle.room_script.specs.declared.trials.Line.{Line}
use Rattle.room_script.specs.declared.trials.Line.TheVariants as lines
use Rattle.bay_crew.specs.declared.mixes.Mix.{Mix}
use Rattle.bay_crew.specs.declared.mixes.Mix.TheVariants.{Stack, Queue, Both}

-- whether a caller's call k is on the stack: on both lists it takes turns
abbrev pub on_stack : Mix → ℕ → Bool
on_stack Stack k = true
on_stack Queue k = false
on_stack Both k = k % 2 == 0

-- how many calls on the same list stand before it
abbrev pub turn_of : Mix → ℕ → ℕ
turn_of Both k = k / 2
turn_of _ k = k

-- of six calls on a list the first, the second and the fourth put
abbrev pub puts : ℕ → Bool
puts turn = turn % 6 == 0 || turn % 6 == 1 || turn % 6 == 3

-- the call that puts the item on the stack or in the queue, or that takes one
abbrev pub line_on : Bool → Bool → ℕ → Line
line_on true true item = lines.Push item
line_on true false item = lines.Pop
line_on false true item = lines.Enq item
line_on false false item = lines.Deq

-- the call k of a caller, which puts an item that no other call puts
abbrev pub line_of : Mix → ℕ → ℕ → Line
line_of mix who k = line_on (on_stack mix k) (puts (turn_of mix k)) (who * 2 ^ 32 + k)

-- the first so many calls of a caller
abbrev pub script_of : Mix → ℕ → ℕ → List Line
script_of mix calls who = map (line_of mix who) (range_with_len 0 calls)

-- those of all callers
abbrev pub scripts_of : Mix → ℕ → ℕ → List (List Line)
scripts_of mix callers calls = map (script_of mix calls) (range_with_len 0 callers)

-- the trial of a crew, whose callers have more draws than calls
abbrev pub crew_outline : Layout → ℕ → ℕ → ℕ → Mix → Outline
crew_outline layout blocks callers calls mix =
    record { layout = layout; blocks = blocks; draws = 2 ^ 40; scripts = scripts_of mix callers calls }
