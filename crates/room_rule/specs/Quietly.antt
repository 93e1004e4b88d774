-- The steps that are no act of the protocol: how a table begins, how seats split and join, an insider's
-- look, and how a table ends. What happened up to then stays as it is.
use Rattle.std.specs.Prelude.{◌≡◌, ℕ, ◌+◌, ◌*◌, ◌^◌, ◌<◌, ◌≤◌, Option, None, List, [], ◌∷◌, ◌++◌, length, replicate, slice_index, slice_set}
use Rattle.atomic_table.specs.Table.{State, Final, Seen, opening}
use Rattle.room_core.specs.declared.phases.Phase.TheVariants.{Out}
use Rattle.room_core.specs.declared.words.Word.TheVariants.{Active}
use Rattle.room_core.specs.Runs.{World, start}
use Rattle.room_core.specs.Words.{place}
use Rattle.room_rule.specs.Use.{IsAt, Meaning}
use Rattle.room_rule.specs.Closes.{AreApart, Ends}
use Rattle.room_rule.specs.Looking.{looked_by}
use Rattle.room_rule.specs.View.{maker, hired, after_hire, noted, learned, keeper, taken_in, gone}
use Rattle.room_rule.specs.Told.{Seated, IsNoEvent}
use Rattle.room_rule.specs.Rule.{Ruled}
use Rattle.room_rule.specs.declared.rule.Plan.{Plan}
use Rattle.room_rule.specs.declared.views.Role.TheVariants.{Maker, Pass, Note, Keeper}
use Rattle.room_rule.specs.declared.views.Shown.{Shown}

module _ {X S V : Type 0} (M : Meaning X S V) (rooms : ℕ) where
  -- the rule allows the table with these views too, and nothing happened
  abbrev pub IsQuiet : (k : Plan X) (s : State (Option S) (Shown V)) → Ruled M rooms k s
      → List (Shown V) → Type 0
  IsQuiet k s r views =
      (after : Ruled M rooms k (record { words = s.words; homes = s.homes; views = views }))
      × (after.world ≡ r.world)

  -- a table begins with the protocol at its start, all slots at home and the maker's seat alone
  abbrev pub TablesBegin : Type 0
  TablesBegin = (k : Plan X) (user : List ℕ)
      → rooms ≤ 7
      → k.callers ≤ 64
      → length user ≡ M.words k.usage
      → ((i : ℕ) → i < M.words k.usage → slice_index user i ≡ M.start k.usage k.callers i)
      → (r : Ruled M rooms k (opening (replicate (1 + 3 * rooms) 0 ++ user)
      (replicate (M.slots k.usage) None) (maker M.starts)))
      × (r.world ≡ start rooms k.callers)

  -- the maker may make each pass
  abbrev pub PassesAreMade : Type 0
  PassesAreMade = (k : Plan X) (s : State (Option S) (Shown V)) (r : Ruled M rooms k s) (id : ℕ)
      (v : Shown V)
      → IsAt s.views id v
      → v.role ≡ Maker
      → v.who < k.callers
      → IsQuiet k s r (slice_set s.views id (after_hire v) ++ hired M.starts v ∷ [])

  -- a caller may make a note
  abbrev pub NotesAreMade : Type 0
  NotesAreMade = (k : Plan X) (s : State (Option S) (Shown V)) (r : Ruled M rooms k s) (id : ℕ)
      (v : Shown V)
      → IsAt s.views id v
      → v.role ≡ Pass
      → IsQuiet k s r (slice_set s.views id v ++ noted v ∷ [])

  -- and a caller may learn it, after which its seat is gone
  abbrev pub NotesAreLearned : Type 0
  NotesAreLearned = (k : Plan X) (s : State (Option S) (Shown V)) (r : Ruled M rooms k s)
      (id other : ℕ) (v w : Shown V)
      → IsAt s.views id v
      → IsAt s.views other w
      → v.role ≡ Pass
      → w.role ≡ Note
      → IsQuiet k s r (slice_set (slice_set s.views id (learned v w)) other (gone M.starts))

  -- a load of the active word by any caller, which tells an insider its turn and room
  abbrev pub LooksAreQuiet : Type 0
  LooksAreQuiet = (k : Plan X) (slots id : ℕ) (me : Seated S V)
      → me.0.role ≡ Pass
      → IsNoEvent M rooms k slots id me (place rooms Active) (λ n. n) (looked_by me)

  -- the keeper may come in
  abbrev pub KeepersEnter : Type 0
  KeepersEnter = (k : Plan X) (s : State (Option S) (Shown V)) (r : Ruled M rooms k s)
      → IsQuiet k s r (s.views ++ keeper M.starts ∷ [])

  -- and take in each pass of a caller that is out, after which that seat is gone
  abbrev pub PassesAreTakenIn : Type 0
  PassesAreTakenIn = (k : Plan X) (s : State (Option S) (Shown V)) (r : Ruled M rooms k s)
      (id other : ℕ) (v w : Shown V)
      → IsAt s.views id v
      → IsAt s.views other w
      → v.role ≡ Keeper
      → w.role ≡ Pass
      → w.phase ≡ Out
      → IsQuiet k s r (slice_set (slice_set s.views id (taken_in v w)) other (gone M.starts))

  -- what a table ends with, where the keeper took in all passes
  abbrev pub TablesEnd : Type 0
  TablesEnd = (k : Plan X) (id : ℕ) (v : Shown V) (words : List ℕ) (slots : List (Option S))
      → v.role ≡ Keeper
      → length v.ended ≡ k.callers
      → AreApart v.ended
      → Final (Seen (Ruled M rooms k) id v) words slots
      → Ends M rooms k v.ended words slots

  -- all of them
  pub record StepsAreQuiet : Type 0 where
    pub begins : TablesBegin
    pub hires : PassesAreMade
    pub notes : NotesAreMade
    pub learns : NotesAreLearned
    pub looks : LooksAreQuiet
    pub keeper_enters : KeepersEnter
    pub keeper_joins : PassesAreTakenIn
    pub ends : TablesEnd
