-- What a history tells of its callers: the entries of each one's own calls.
use Rattle.std.specs.Prelude.{◌≡◌, ◌==◌, ◌↔◌, ℕ, ◌<◌, List, [], ◌++◌, length, reverse, slice_index_or, All}
use Rattle.std.specs.List.{filter}
use Rattle.bay_core.specs.declared.calls.Layout.{Layout}
use Rattle.bay_core.specs.declared.calls.Entry.{Entry}
use Rattle.bay_core.specs.declared.calls.Noted.{Noted}
use Rattle.bay_core.specs.Blocks.{Fits}
use Rattle.bay_core.specs.Contents.{empty}
use Rattle.bay_core.specs.Legal.{IsLegal, IsRoomed}
use Rattle.bay_core.specs.Noted.{after, entries, AreEntries}
use Rattle.bay_core.specs.History.{own, GoesOn}

-- the entries of one caller
abbrev pub of_caller : ℕ → List Entry → List Entry
of_caller who es = filter (λ e. e.who == who) es

-- the entries of a caller's own calls in a history, in their order
abbrev pub told : ℕ → List Noted → List Entry
told who history = of_caller who (reverse (entries history))

-- the lists are those of callers 0, 1 and so on: each has the entries among es of its caller, and
-- es has those of no other
pub record AreOwn (lists : List (List Entry)) (es : List Entry) : Type 0 where
  pub own : (who : ℕ) → who < length lists → slice_index_or lists who [] ≡ of_caller who es
  pub callers : All (λ e. e.who < length lists) es

-- The history that a caller has seen goes on from `past` to `seen`. Its own calls, `made` by now, are all
-- of its number there, and gained these entries in it, in their order.
pub record Gained (who : ℕ) (past seen made : List Noted) (es : List Entry) : Type 0 where
  pub goes_on : GoesOn seen past
  pub mine : made ≡ own who seen
  pub gains : told who seen ≡ told who past ++ es

-- The list has the entries of the caller's own calls, as far as it has seen the history, and it has seen
-- all of its own.
pub record IsOwn (who : ℕ) (h seen : List Noted) (es : List Entry) : Type 0 where
  pub goes_on : GoesOn h seen
  pub all : own who seen ≡ own who h
  pub tells : es ≡ told who seen

-- Each list has the entries of one caller's own calls, of callers 0, 1 and so on, by what each has seen
-- of the history, which has calls of no other.
pub record AreOwnCalls (h : List Noted) (seen : ℕ → List Noted) (lists : List (List Entry)) : Type 0 where
  pub each : (who : ℕ) → who < length lists → IsOwn who h (seen who) (slice_index_or lists who [])
  pub callers : All (λ n. n.who < length lists) h

-- A history, the newest first, and its entries in order: they are just those of its calls in order, they
-- are legal and roomed, and their items have cells; and each caller's entries are those of its own calls.
pub record IsToldInOrder (layout : Layout) (blocks : ℕ) (h : List Noted) : Type 0 where
  pub tells : (es : List Entry) → AreEntries layout blocks empty (reverse h) es
      ↔ (es ≡ reverse (entries h))
  pub legal : IsLegal layout blocks (reverse (entries h)) (after h)
  pub roomed : IsRoomed (reverse (entries h))
  pub fits : Fits layout blocks (after h)
  pub own : (seen : ℕ → List Noted) (lists : List (List Entry)) → AreOwnCalls h seen lists
      → AreOwn lists (reverse (entries h))
