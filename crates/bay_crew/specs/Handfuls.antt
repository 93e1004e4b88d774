-- Handfuls that are timed.
use Rattle.std.specs.Prelude.{ℕ}
use Rattle.bay_store.specs.declared.receipts.Stop.{Stop}
use Rattle.bay_store.specs.declared.receipts.Stop.TheVariants.{All, Full, Overflow, Spent}
use Rattle.bay_crew.specs.declared.handfuls.Turn.{Turn}
use Rattle.bay_crew.specs.declared.handfuls.Turn.TheVariants.{Puts, PutsAndTakes}

-- how many of so many items have an entry, of which so many are stored: at Full all that are refused have one
abbrev pub answered_of : Stop → ℕ → ℕ → ℕ
answered_of All stored count = count
answered_of Full stored count = count
answered_of Overflow stored count = stored
answered_of Spent stored count = stored

-- the draws of a turn: one of a handful, and one of each item that is taken
abbrev pub draws_in : Turn → ℕ
draws_in Puts = 1
draws_in PutsAndTakes = 33

-- its puts and takes, one of each item
abbrev pub calls_in : Turn → ℕ
calls_in Puts = 32
calls_in PutsAndTakes = 64
