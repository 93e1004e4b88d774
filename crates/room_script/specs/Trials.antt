-- The text of a trial.
use Rattle.std.specs.Prelude.{◌≡◌, ◌≢◌, ℕ, ◌+◌, ◌≤◌, ◌<◌, ◌^◌, ◌⊎◌, List, [], ◌∷◌, ◌++◌, length, map, All, codes, decimal}
use Rattle.std.specs.List.{flat_map}
use Rattle.bay_core.specs.declared.calls.Layout.{Layout}
use Rattle.bay_core.specs.declared.calls.Layout.TheVariants.{Split, Paged}
use Rattle.bay_core.specs.declared.numbers.TheConstants.{MOST_BLOCKS, MOST_DRAWS}
use Rattle.room_script.specs.declared.trials.Line.{Line}
use Rattle.room_script.specs.declared.trials.Line.TheVariants.{Push, Pop, Enq, Deq, Peek, Sizes}
use Rattle.room_script.specs.declared.trials.Trial.{Trial}

-- what a trial says: how the bay is laid out, its number of blocks, the draws that each caller may
-- make, and each caller's script
pub record Outline : Type 0 where
  pub layout : Layout
  pub blocks : ℕ
  pub draws : ℕ
  pub scripts : List (List Line)

-- what a trial in memory says
abbrev pub outline_of : Trial → Outline
outline_of t =
    record { layout = t.layout; blocks = t.blocks; draws = t.draws; scripts = map (λ script. script.items) t.scripts.items }

-- the forms of a trial's text, 1 and 2
abbrev pub IsForm : ℕ → Type 0
IsForm form = (1 ≤ form) × (form ≤ 2)

-- the line of the form
abbrev pub title_line : ℕ → List ℕ
title_line form = codes "trial " ++ decimal form

-- the line of the layout
abbrev pub layout_line : Layout → List ℕ
layout_line Split = codes "layout split"
layout_line Paged = codes "layout paged"

-- the line of the number of blocks
abbrev pub blocks_line : ℕ → List ℕ
blocks_line blocks = codes "blocks " ++ decimal blocks

-- the line of the number of draws
abbrev pub draws_line : ℕ → List ℕ
draws_line draws = codes "draws " ++ decimal draws

-- the line that begins a caller's script
abbrev pub caller_line : List ℕ
caller_line = codes "caller"

-- the line of a call
abbrev pub call_line : Line → List ℕ
call_line (Push item) = codes "push " ++ decimal item
call_line Pop = codes "pop"
call_line (Enq item) = codes "enq " ++ decimal item
call_line Deq = codes "deq"
call_line Peek = codes "peek"
call_line Sizes = codes "sizes"

-- the call has a line in the form: one that looks has none in the first
abbrev pub HasLine : ℕ → Line → Type 0
HasLine form (Push item) = Unit {0}
HasLine form Pop = Unit {0}
HasLine form (Enq item) = Unit {0}
HasLine form Deq = Unit {0}
HasLine form Peek = form ≡ 2
HasLine form Sizes = form ≡ 2

-- the lines of a script
abbrev pub script_lines : List Line → List (List ℕ)
script_lines script = caller_line ∷ map call_line script

-- the lines of a trial in a form
abbrev pub outline_lines : ℕ → Outline → List (List ℕ)
outline_lines form o =
    title_line form ∷ layout_line o.layout ∷ blocks_line o.blocks ∷ draws_line o.draws
    ∷ flat_map script_lines o.scripts

-- the least number of blocks: two lists that share their blocks need two
abbrev pub least_blocks : Layout → ℕ
least_blocks Split = 1
least_blocks Paged = 2

-- from as many up to 16384 blocks
abbrev pub IsBlocks : Layout → ℕ → Type 0
IsBlocks layout blocks = (least_blocks layout ≤ blocks) × (blocks ≤ MOST_BLOCKS)

-- from 1 to 2^48 draws
abbrev pub IsDraws : ℕ → Type 0
IsDraws draws = (1 ≤ draws) × (draws ≤ MOST_DRAWS)

-- the item of a call fits 64 bits
abbrev pub IsCall : Line → Type 0
IsCall (Push item) = item < 2 ^ 64
IsCall Pop = Unit {0}
IsCall (Enq item) = item < 2 ^ 64
IsCall Deq = Unit {0}
IsCall Peek = Unit {0}
IsCall Sizes = Unit {0}

-- the line is that of a call, in the form
abbrev pub IsCallLine : ℕ → List ℕ → Line → Type 0
IsCallLine form line a = IsCall a × HasLine form a × (line ≡ call_line a)

-- from 1 to 64 callers, each with calls whose items fit
pub record AreScripts (scripts : List (List Line)) : Type 0 where
  pub some : 1 ≤ length scripts
  pub few : length scripts ≤ 64
  pub calls : All (All IsCall) scripts

-- in the form the line may follow scripts of which the last is `script`, and they are then these: it
-- begins a further one, or it is the next call of the last one
abbrev pub IsNext : ℕ → List (List Line) → List Line → List ℕ → List (List Line) → List Line → Type 0
IsNext form scripts script line scripts' script' =
    ((line ≡ caller_line) × (length scripts + 1 < 64) × (scripts' ≡ scripts ++ script ∷ []) × (script' ≡ []))
    ⊎ ((a : Line) × IsCallLine form line a × (scripts' ≡ scripts) × (script' ≡ script ++ a ∷ []))

-- no line like this one may follow those scripts and one more: it begins one too many, or it is
-- neither a beginning nor a call
abbrev pub IsWrong : ℕ → List (List Line) → List ℕ → Type 0
IsWrong form scripts line =
    ((line ≡ caller_line) × (64 ≤ length scripts + 1))
    ⊎ ((line ≢ caller_line) × ((a : Line) → ¬ IsCallLine form line a))

-- what is said is within the limits
pub record IsWithin (o : Outline) : Type 0 where
  pub blocks : IsBlocks o.layout o.blocks
  pub draws : IsDraws o.draws
  pub scripts : AreScripts o.scripts

-- the lines are those of a trial that says this, within the limits and in this form, in which each of
-- its calls has a line
pub record SpellsIn (form : ℕ) (lines : List (List ℕ)) (o : Outline) : Type 0 where
  pub known : IsForm form
  pub within : IsWithin o
  pub calls : All (All (HasLine form)) o.scripts
  pub spelled : lines ≡ outline_lines form o

-- in one of the forms
pub record SpellsTrial (lines : List (List ℕ)) (o : Outline) : Type 0 where
  pub form : ℕ
  pub spelled : SpellsIn form lines o

-- the lines are those of some trial
abbrev pub IsTrial : List (List ℕ) → Type 0
IsTrial lines = (o : Outline) × SpellsTrial lines o
