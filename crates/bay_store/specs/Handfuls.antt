-- What a handful of pushes leaves.
use Rattle.std.specs.Prelude.{◌≡◌, ◌≢◌, ℕ, ◌+◌, ◌-◌, ◌<◌, ◌≤◌, ◌⊎◌, List, [], ◌++◌, length, map, take, drop, Some, IfSome}
use Rattle.room_gate.specs.Shows.{Caller}
use Rattle.bay_core.specs.declared.calls.Op.{Op}
use Rattle.bay_core.specs.declared.calls.Op.TheVariants.{Push}
use Rattle.bay_core.specs.declared.calls.Reply.{Reply}
use Rattle.bay_core.specs.declared.calls.Reply.TheVariants as replies
use Rattle.bay_core.specs.declared.calls.Entry.{Entry}
use Rattle.bay_core.specs.declared.calls.Noted.{Noted}
use Rattle.bay_core.specs.declared.numbers.TheConstants.{BOTTOM}
use Rattle.bay_core.specs.Noted.{after, entries}
use Rattle.bay_core.specs.History.{IsHistory, own, GoesOn}
use Rattle.bay_core.specs.Told.{Gained}
use Rattle.bay_rule.specs.declared.bay_use.BayUse.{BayUse}
use Rattle.bay_rule.specs.declared.views.Stage.TheVariants.{Resting}
use Rattle.bay_rule.specs.declared.views.BayView.{BayView}
use Rattle.bay_rule.specs.Words.{room_at, spare_at}
use Rattle.bay_rule.specs.Leaving.{pushes}
use Rattle.bay_rule.specs.Entries.{entered_some}
use Rattle.bay_rule.specs.Newest.{EmptySince}
use Rattle.bay_rule.specs.Told.{IsFrozen, Stood, places_in}
use Rattle.bay_store.specs.Wishes.{items_of}
use Rattle.bay_store.specs.Shows.{Actor}
use Rattle.bay_store.specs.Sharing.{view_calling, calling, acting}
use Rattle.bay_store.specs.Acting.{KeepsLoaded, Spills, AddsNone}
use Rattle.bay_store.specs.Adding.{Known, known}
use Rattle.bay_store.specs.Calls.{MayRepeat}
use Rattle.bay_rule.specs.declared.bay_use.TheConstants.{ROOMS}
use Rattle.bay_store.specs.declared.acts.BayHandful.{BayHandful}
use Rattle.bay_store.specs.declared.receipts.Handful.{Handful}
use Rattle.bay_store.specs.declared.receipts.Stop.{Stop}
use Rattle.bay_store.specs.declared.receipts.Stop.TheVariants.{All, Full, Overflow, Spent}

-- the rank at which the stack's cells end, by the blocks that a push found it to have
abbrev pub cells_end : BayUse → ℕ → ℕ
cells_end x frozen = BOTTOM + room_at x.layout x.blocks frozen

-- what stops places that go up to rank `past`, where cells are held up to rank `bound` and so many blocks
-- are free: nothing; or that some place is past those cells, with no block free, or with one free
abbrev pub StopsAt : ℕ → ℕ → ℕ → Stop → Type 0
StopsAt bound spare past All = past ≤ bound
StopsAt bound spare past Full = (bound < past) × (spare ≡ 0)
StopsAt bound spare past Overflow = (bound < past) × (0 < spare)
StopsAt bound spare past Spent = ⊥

-- the items that are refused, of those that are not stored: all at Full, and else none
abbrev pub refused_of : Stop → List ℕ → List ℕ
refused_of All rest = []
refused_of Full rest = rest
refused_of Overflow rest = []
refused_of Spent rest = []

-- so many overflows it is
abbrev pub overflows_of : Stop → ℕ
overflows_of All = 0
overflows_of Full = 0
overflows_of Overflow = 1
overflows_of Spent = 0

-- so many draws the last try of a call made
abbrev pub draws_of : Stop → ℕ
draws_of All = 1
draws_of Full = 1
draws_of Overflow = 1
draws_of Spent = 0

-- The entries of a handful, after this history: one for each item that is stored or refused, in their
-- order, the first with this rank and each further one with the next; the caller had made the calls `made`.
pub record AddsSome (x : BayUse) (who turn rank : ℕ) (stored refused : List ℕ)
    (history made : List Noted) (now : Known) : Type 0 where
  pub some : 0 < length stored + length refused
  -- the history that the caller has seen ends with them, and its own calls grew by just them
  pub seen : now.seen ≡ pushes turn rank who stored refused history
  pub mine : now.mine ≡ pushes turn rank who stored refused made
  pub all_mine : now.mine ≡ own who now.seen
  -- the items that are stored are answered Done, and the others Full
  pub told : entries now.seen ≡ entered_some turn rank who stored refused (entries history)
  -- the frozen word was so then; the whole history is legal and roomed; and since the caller found the
  -- bay quiet each call was answered empty
  pub frozen : IsFrozen x.layout Push now.frozen (after history)
  pub legal : IsHistory x.layout x.blocks now.seen
  pub since : IfSome now.quiet_at (λ k. EmptySince k now.seen)

-- what a handful adds: its entries; or nothing, where no item is stored or refused
abbrev pub GainsSome : BayUse → ℕ → ℕ → ℕ → List ℕ → List ℕ → List Noted → BayView → BayView → Type 0
GainsSome x who turn rank stored refused history v w =
    AddsSome x who turn rank stored refused history v.mine (known w)
    ⊎ ((length stored + length refused ≡ 0) × AddsNone v w)

-- One fetch-and-add on `top` in this turn, by which these items drew the places from `rank` on in their
-- order, and what came of it: so many are stored, and this stopped it.
pub record DrawsSome (x : BayUse) (items : List ℕ) (who turn rank stored : ℕ) (stop : Stop)
    (v w : BayView) : Type 0 where
  -- it came after a history that goes on from what its caller had seen, and in the words that it loaded
  pub history : List Noted
  pub goes_on : GoesOn history v.seen
  pub stood : Stood x.layout x.blocks who turn Push w.frozen w.spare rank history
  pub old : w.old ≡ rank
  pub last : w.last ≡ turn
  -- the items whose places have cells are stored
  pub cells : stored ≡ places_in (cells_end x w.frozen) rank (length items)
  pub stops : StopsAt (cells_end x w.frozen) (spare_at x.layout w.spare) (rank + length items) stop
  pub gains : GainsSome x who turn rank (take stored items) (refused_of stop (drop stored items))
      history v w
  pub keeps : KeepsLoaded x.layout Push v.frozen v.spare w.frozen w.spare
  pub spills : Spills Push (overflows_of stop) v w

-- an insider did its handful, and nothing else changed but its shares: those of the items that are stored
-- are theirs, and it owes the others
pub record IsActedSome (x : BayUse) (i : Actor) (h : BayHandful) : Type 0 where
  pub draws : DrawsSome x (items_of i.wish) i.insider.caller.who h.turn h.rank h.stored h.stop
      i.insider.caller.user h.done.insider.caller.user
  pub turn : h.turn ≡ i.insider.opening.turn
  -- its turn came at most as many turns after the caller's first look as there are rooms
  pub first : h.done.insider.caller.first ≡ Some h.first
  pub soon : h.turn ≤ h.first + ROOMS
  pub owes : h.done.owes + h.stored ≡ length (items_of i.wish)
  pub share : length (items_of i.wish) ≤ i.insider.caller.user.held
  pub same : h.done.insider
      ≡ acting i.insider h.done.insider (i.insider.caller.user.held - h.stored)

-- One handful of a whole call: it had a draw left, and made it, and nothing else changed.
pub record Puts (x : BayUse) (items : List ℕ) (stored : ℕ) (stop : Stop)
    (before now : Caller BayView) : Type 0 where
  pub had : before.draws < before.limit
  pub turn : ℕ
  pub rank : ℕ
  pub first : ℕ
  pub draws : DrawsSome x items before.who turn rank stored stop before.user now.user
  pub looked : now.first ≡ Some first
  pub soon : turn ≤ first + ROOMS
  pub same : now ≡ calling before now (before.draws + 1) before.user.held

-- a try at a handful, by what stopped it: with no draw left nothing is changed
abbrev pub PutsOnce : BayUse → List ℕ → ℕ → Stop → Caller BayView → Caller BayView → Type 0
PutsOnce x items stored All before now = Puts x items stored All before now
PutsOnce x items stored Full before now = Puts x items stored Full before now
PutsOnce x items stored Overflow before now = Puts x items stored Overflow before now
PutsOnce x items stored Spent before now =
    (before.draws ≡ before.limit) × (stored ≡ 0) × (now ≡ before)

-- Handfuls of a call that overflowed, one after another, each of the items that were not stored before:
-- how many, how many items they stored in all, and the caller after them.
pub data HasSpilled (x : BayUse) (items : List ℕ) (before : Caller BayView)
    : ℕ → ℕ → Caller BayView → Type 0 where
  none : HasSpilled x items before 0 0 before
  more : (times stored part : ℕ) (mid now : Caller BayView)
      → HasSpilled x items before times stored mid
      → Puts x (drop stored items) part Overflow mid now
      → HasSpilled x items before (times + 1) (stored + part) now

-- A whole call: it overflowed so often, where blocks change hands; and its last try, at the items that
-- were not stored before, stopped as it answers.
pub record PutsSome (x : BayUse) (items : List ℕ) (before now : Caller BayView)
    (h : Handful) : Type 0 where
  pub again : ℕ
  pub repeats : MayRepeat Push x.layout again
  pub spilled : ℕ
  pub mid : Caller BayView
  pub run : HasSpilled x items before again spilled mid
  pub part : ℕ
  pub last : PutsOnce x (drop spilled items) part h.stop mid now
  pub answered : h.stop ≢ Overflow
  -- so many of its items are stored in all, the first ones; at All these are all
  pub stored : h.stored ≡ spilled + part
  pub few : h.stored ≤ length items
  pub all : h.stop ≡ All → h.stored ≡ length items
  -- it made a draw for each, and nothing else changed
  pub spills : Spills Push again before.user now.user
  pub same : now ≡ calling before now (before.draws + again + draws_of h.stop) before.user.held

-- what an entry says of its call: the operation, the item and the reply
abbrev pub says : Entry → Op × (ℕ × Reply)
says e = (e.op, (e.arg, e.reply))

-- pushes of these items, in their order, with this reply
abbrev pub pushed_as : Reply → List ℕ → List (Op × (ℕ × Reply))
pushed_as reply items = map (λ i. (Push, (i, reply))) items

-- The entries of a whole call, in order: its caller's own calls gained one for each item that is stored, with
-- Done, and at Full one for each other item, with Full, and no others.
pub record PutsEntries (items : List ℕ) (before now : Caller BayView) (h : Handful) : Type 0 where
  pub entries : List Entry
  pub gained : Gained before.who before.user.seen now.user.seen now.user.mine entries
  pub told : map says entries
      ≡ pushed_as replies.Done (take h.stored items)
      ++ pushed_as replies.Full (refused_of h.stop (drop h.stored items))

-- what the stores of a handful's items leave of a view: nothing to do
abbrev pub Fills : BayView → BayView → Type 0
Fills v w = w ≡ record v { stage = Resting; aim = w.aim }

-- a handful inside its room, by its first rank and what it answers: it used a draw, and its items that are
-- stored have their shares
pub record HasDrawn (x : BayUse) (items : List ℕ) (who turn rank : ℕ) (h : Handful)
    (v w : BayView) : Type 0 where
  pub draws : DrawsSome x items who turn rank h.stored h.stop v w
  pub drawn : w.drawn ≡ v.drawn + 1
  pub view : w ≡ view_calling v w (v.held - h.stored)
