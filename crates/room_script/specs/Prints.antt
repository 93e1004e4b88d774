-- The text that a run prints.
use Rattle.std.specs.Prelude.{ℕ, ◌+◌, List, [], ◌∷◌, ◌++◌, map, codes, decimal}
use Rattle.std.specs.List.{flat_map}
use Rattle.room_core.specs.declared.items.Item.{Item}
use Rattle.room_core.specs.declared.items.Item.TheVariants.{Opened, Entered, Left, ExitBegun, ExitEnded}
use Rattle.room_core.specs.declared.phases.Phase.{Phase}
use Rattle.room_core.specs.declared.phases.Phase.TheVariants.{Out, Looking, Glancing, Seizing, Counting, Admitting, Turning, Inside, Exiting, Peering, Scanning, Passing}
use Rattle.room_core.specs.Machine.{State}

-- the line of an item of the trace
abbrev pub item_line : Item → List ℕ
item_line (Opened turn room from to) =
    codes "open " ++ (decimal turn ++ (codes " " ++ (decimal room
    ++ (codes " " ++ (decimal from ++ (codes " " ++ decimal to))))))
item_line (Entered caller room) = codes "enter " ++ (decimal caller ++ (codes " " ++ decimal room))
item_line (Left caller) = codes "leave " ++ decimal caller
item_line (ExitBegun room) = codes "exit " ++ (decimal room ++ codes " begin")
item_line (ExitEnded room) = codes "exit " ++ (decimal room ++ codes " end")

-- the name of a phase
abbrev pub phase_name : Phase → List ℕ
phase_name Out = codes "Out"
phase_name (Looking room ticket first) = codes "Looking"
phase_name (Glancing room ticket first) = codes "Glancing"
phase_name (Seizing room ticket first idle) = codes "Seizing"
phase_name (Counting room ticket first turn) = codes "Counting"
phase_name (Admitting room ticket first turn to) = codes "Admitting"
phase_name (Turning room ticket first to) = codes "Turning"
phase_name (Inside room ticket first turn to) = codes "Inside"
phase_name (Exiting room turn) = codes "Exiting"
phase_name (Peering room turn k w) = codes "Peering"
phase_name (Scanning room turn k) = codes "Scanning"
phase_name (Passing turn next) = codes "Passing"

-- the line of the active word
abbrev pub active_line : ℕ → List ℕ
active_line word = codes "active " ++ decimal word

-- the line of a caller
abbrev pub caller_line : ℕ → Phase → List ℕ
caller_line caller phase = codes "caller " ++ (decimal caller ++ (codes " " ++ phase_name phase))

-- the lines of the callers, numbered from one on
abbrev pub caller_lines : ℕ → List Phase → List (List ℕ)
caller_lines caller [] = []
caller_lines caller (phase ∷ phases) = caller_line caller phase ∷ caller_lines (caller + 1) phases

-- the lines of a run: its trace, the active word and each caller's phase
abbrev pub run_lines : State → List Item → List (List ℕ)
run_lines core trace =
    map item_line trace ++ active_line core.words.active ∷ caller_lines 0 core.phases

-- lines as a text, each with a newline at its end
abbrev pub text_of : List (List ℕ) → List ℕ
text_of lines = flat_map (λ line. line ++ codes "\n") lines
