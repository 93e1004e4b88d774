-- The history of a trial.
use Rattle.std.specs.Prelude.{◌≡◌, ℕ, ◌+◌, ◌/◌, ◌<◌, ◌≤◌, ◌⊎◌, List, [], length, map, take, slice_index_or, All, reverse}
use Rattle.std.specs.List.{sum_by}
use Rattle.bay_core.specs.declared.calls.Layout.{Layout}
use Rattle.bay_core.specs.declared.calls.Layout.TheVariants.{Split, Paged}
use Rattle.bay_core.specs.declared.calls.Entry.{Entry}
use Rattle.bay_core.specs.declared.calls.Noted.{Noted}
use Rattle.bay_core.specs.Contents.{Contents}
use Rattle.bay_core.specs.Noted.{after, entries}
use Rattle.bay_core.specs.History.{IsHistory}
use Rattle.bay_core.specs.Legal.{IsLegal, IsRoomed}
use Rattle.bay_core.specs.Told.{of_caller, AreOwn}
use Rattle.bay_rule.specs.Draws.{dones}
use Rattle.bay_store.specs.Closing.{AreFree}
use Rattle.room_script.specs.declared.trials.Line.{Line}
use Rattle.room_script.specs.Trials.{Outline}
use Rattle.room_trial.specs.Scripts.{asked, called, items_taken}
use Rattle.room_trial.specs.declared.crews.Played.{Played}

-- the script of a caller
abbrev pub script_of : Outline → ℕ → List Line
script_of o caller = slice_index_or o.scripts caller []

-- So many lines may be those for which a caller had draws, where a trial has these entries: each took a
-- draw, and where blocks change hands, two more may have overflowed, and one more for each 64 items
-- that were stored.
abbrev pub UsesDraws : Layout → ℕ → ℕ → List Entry → Type 0
UsesDraws Split draws lines es = lines ≡ draws
UsesDraws Paged draws lines es = draws ≤ lines + 2 + dones es / 64

-- The entries `mine`, among all those of a trial, are of the first lines of a caller's script, in order,
-- each once: of no more than it had draws for, and of all unless its draws were used.
pub record AreAnswers (o : Outline) (es : List Entry) (caller : ℕ) (mine : List Entry) : Type 0 where
  pub first : map called mine ≡ take (length mine) (map asked (script_of o caller))
  pub drawn : length mine ≤ o.draws
  pub whole : (length mine ≡ length (script_of o caller)) ⊎ UsesDraws o.layout o.draws (length mine) es

-- The entries of a trial are one history, legal and roomed, which leaves s. It has each caller's
-- answers, and nothing else.
pub record IsTrialHistory (o : Outline) (es : List Entry) (s : Contents) : Type 0 where
  pub legal : IsLegal o.layout o.blocks es s
  pub roomed : IsRoomed es
  pub callers : All (λ e. e.who < length o.scripts) es
  pub answers : (caller : ℕ) → caller < length o.scripts → AreAnswers o es caller (of_caller caller es)

-- the lists of entries that callers brought back
abbrev pub lists_of : Played → List (List Entry)
lists_of played = map (λ list. list.items) played.entries.items

-- the lists are the callers' own entries of one bay's history, caller by caller
pub record AreOfOneBay (o : Outline) (lists : List (List Entry)) : Type 0 where
  pub history : List Noted
  pub legal : IsHistory o.layout o.blocks history
  pub own : AreOwn lists (reverse (entries history))
  pub many : length lists ≡ length o.scripts
  pub answers : (caller : ℕ) → caller < length o.scripts → AreAnswers o (reverse (entries history)) caller (slice_index_or lists caller [])

-- the shares of callers with these entries: the one of each at first, and that of each item taken
abbrev pub shares_after : List (List Entry) → ℕ
shares_after lists = sum_by (λ es. 1 + items_taken es) lists

-- What the callers of a trial did, and what their bay closed with: the lists that the one history of
-- their calls leaves, and in `live` their items and the callers' shares.
pub record IsPlayed (o : Outline) (played : Played) : Type 0 where
  pub bay : AreOfOneBay o (lists_of played)
  pub stack : played.closed.stack.items ≡ (after bay.history).stack
  pub queue : played.closed.queue.items ≡ (after bay.history).queue
  pub live : played.closed.live
      ≡ length played.closed.stack.items + length played.closed.queue.items + shares_after (lists_of played)
  pub blocks_free : AreFree o.layout o.blocks (after bay.history) played.closed.blocks_free
