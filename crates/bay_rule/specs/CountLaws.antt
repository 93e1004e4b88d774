-- Which words of a bay are counts.
use Rattle.std.specs.Prelude.{◌≡◌, ℕ, ◌<◌, ◌⊎◌}
use Rattle.bay_core.specs.declared.calls.Layout.{Layout}
use Rattle.bay_core.specs.declared.calls.Layout.TheVariants.{Split, Paged}
use Rattle.bay_rule.specs.Words.{looks_in}
use Rattle.bay_rule.specs.declared.words.TheConstants.{CELLS, ENTRIES}

-- the first words are: those before the cells, and where blocks change hands before the entries
abbrev pub counts_in : Layout → ℕ
counts_in Split = CELLS
counts_in Paged = ENTRIES

-- and the last word is
abbrev pub IsCount : Layout → ℕ → ℕ → Type 0
IsCount layout blocks word = (word < counts_in layout) ⊎ (word ≡ looks_in layout blocks)
