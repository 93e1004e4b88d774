-- The text of a trial.
use Rattle.std.specs.Prelude.{◌≡◌, ℕ, List, [], ◌++◌, length, slice_index_or, codes, decimal}
use Rattle.std.specs.List.{flat_map, range_with_len}
use Rattle.bay_core.specs.declared.calls.Entry.{Entry}
use Rattle.bay_core.specs.Contents.{Contents}
use Rattle.bay_core.specs.Told.{of_caller}
use Rattle.room_history.specs.Prints.{entry_line, state_text}
use Rattle.room_script.specs.declared.trials.Line.{Line}
use Rattle.room_script.specs.Trials.{Outline}
use Rattle.room_trial.specs.Histories.{script_of, IsTrialHistory}

-- the line of a caller with so many of so many lines answered
abbrev pub answered_line : ℕ → ℕ → ℕ → List ℕ
answered_line caller answered lines =
    codes "caller " ++ (decimal caller ++ (codes " answered " ++ (decimal answered
    ++ (codes " of " ++ (decimal lines ++ codes "\n")))))

-- the lines of the first so many callers, from their own entries and their scripts
abbrev pub answered_below : List (List Entry) → List (List Line) → ℕ → List ℕ
answered_below lists scripts callers =
    flat_map
    (λ c. answered_line c (length (slice_index_or lists c [])) (length (slice_index_or scripts c [])))
    (range_with_len 0 callers)

-- the lines of all callers of a trial
abbrev pub answered_text : Outline → List Entry → List ℕ
answered_text o es =
    flat_map (λ c. answered_line c (length (of_caller c es)) (length (script_of o c)))
    (range_with_len 0 (length o.scripts))

-- the entries, how many lines each caller had answered, and the lists that are left
abbrev pub trial_text : Outline → List Entry → Contents → List ℕ
trial_text o es s = flat_map entry_line es ++ (answered_text o es ++ state_text s)

-- the text prints a history of the trial
pub record IsTrialText (o : Outline) (text : List ℕ) : Type 0 where
  pub history : List Entry
  pub left : Contents
  pub is_history : IsTrialHistory o history left
  pub printed : text ≡ trial_text o history left
