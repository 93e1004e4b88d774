-- What a seat shows at first, and after each kind of step.
use Rattle.std.specs.Prelude.{ℕ, ◌+◌, Option, Some, None, List, [], ◌∷◌, ◌++◌}
use Rattle.room_core.specs.declared.acts.Act.{Act}
use Rattle.room_core.specs.declared.acts.Act.TheVariants.{Draw, Step, Leave}
use Rattle.room_core.specs.declared.items.Opening.{Opening}
use Rattle.room_core.specs.declared.phases.Phase.TheVariants.{Out}
use Rattle.room_core.specs.declared.words.Touch.{Touch}
use Rattle.room_core.specs.declared.words.Touch.TheVariants.{Add, Load, Swap}
use Rattle.room_core.specs.declared.words.Word.TheVariants.{Grant, Done, Active}
use Rattle.room_core.specs.Moves.{Move, touch_of}
use Rattle.room_core.specs.Trace.{first_by}
use Rattle.room_rule.specs.Openings.{longer}
use Rattle.room_rule.specs.declared.views.Role.{Role}
use Rattle.room_rule.specs.declared.views.Role.TheVariants.{Maker, Pass, Note, Keeper, Gone}
use Rattle.room_rule.specs.declared.views.Shown.{Shown}

-- a seat that has made no step
abbrev pub fresh : {V : Type 0} → Role → ℕ → V → Shown V
fresh role who user = record {
  role = role;
  who = who;
  phase = Out;
  draws = 0;
  user = user;
  seen = [];
  known = [];
  first = None;
  grant = 0;
  active = 0;
  found = None;
  done = 0;
  loads = 0;
  kept = [];
  ended = [];
}

module _ {V : Type 0} (starts : ℕ → V) where
  -- the one that makes the passes
  abbrev pub maker : Shown V
  maker = fresh Maker 0 (starts 0)

  -- the next pass that is made
  abbrev pub hired : Shown V → Shown V
  hired v = fresh Pass v.who (starts v.who)

  -- the keeper at the close, which has taken in no pass
  abbrev pub keeper : Shown V
  keeper = fresh Keeper 0 (starts 0)

  -- a seat that was joined to another
  abbrev pub gone : Shown V
  gone = fresh Gone 0 (starts 0)

module _ {V : Type 0} where
  -- the maker has made one pass more
  abbrev pub after_hire : Shown V → Shown V
  after_hire v = record v { who = v.who + 1 }

  -- a note of what its maker has seen
  abbrev pub noted : Shown V → Shown V
  noted v = record (fresh Note 0 v.user) { seen = v.seen }

  -- a note was learned: its openings are known, and the longer of the two lists is what was seen
  abbrev pub learned : Shown V → Shown V → Shown V
  learned v note = record v { seen = longer v.seen note.seen; known = note.seen ++ v.known }

  -- a step on a user word
  abbrev pub used : Shown V → V → Shown V
  used v user = record v { user = user }

  -- a step of the key's holder on a user word
  abbrev pub keyed : Shown V → V → List ℕ → Shown V
  keyed v user kept = record v { user = user; kept = kept }

  -- the keeper takes in a pass
  abbrev pub taken_in : Shown V → Shown V → Shown V
  taken_in v pass = record v { ended = record { who = pass.who; user = pass.user } ∷ v.ended }

-- the grant that the caller saw last, after a touch
abbrev grant_in : Touch → ℕ → ℕ
grant_in (Load (Grant r) n) old = n
grant_in _ old = old

-- the active word that the caller saw last, after a touch
abbrev active_in : Touch → ℕ → ℕ
active_in (Load Active n) old = n
active_in _ old = old

-- what its swap found since it last loaded a grant, after a touch
abbrev found_in : Touch → Option ℕ → Option ℕ
found_in (Load (Grant r) n) old = None
found_in (Swap found new won) old = Some found
found_in _ old = old

-- the done word that it saw last, after a touch
abbrev done_in : Touch → ℕ → ℕ
done_in (Add (Done r) n) old = n
done_in _ old = old

-- how often it loaded the active word, after a touch
abbrev loads_in : Touch → ℕ → ℕ
loads_in (Load Active n) old = old + 1
loads_in _ old = old

-- a word of the try before, after an act: a draw forgets it, and another act keeps what its step leaves
abbrev word_by : Act → ℕ → ℕ
word_by (Draw r) kept = 0
word_by Step kept = kept
word_by Leave kept = kept

-- what its swap found, after an act of a caller
abbrev found_by : Act → Option ℕ → Option ℕ
found_by (Draw r) kept = None
found_by Step kept = kept
found_by Leave kept = kept

-- a draw forgets the notes that were learned
abbrev known_by : Act → List Opening → List Opening → List Opening
known_by (Draw r) seen known = seen
known_by Step seen known = known
known_by Leave seen known = known

-- how many draws a caller has made after an act
abbrev pub drawn_by : Act → ℕ → ℕ
drawn_by (Draw r) draws = draws + 1
drawn_by Step draws = draws
drawn_by Leave draws = draws

-- an act of the protocol, whose step found n, and after which these openings were seen
abbrev pub moved : {V : Type 0} → Shown V → Act → Move → ℕ → List Opening → Shown V
moved v act mv n seen =
    let touch = touch_of mv.kind mv.word n in
    record v {
      phase = mv.next n;
      draws = drawn_by act v.draws;
      seen = seen;
      known = known_by act v.seen v.known;
      first = first_by act touch v.first;
      grant = word_by act (grant_in touch v.grant);
      active = word_by act (active_in touch v.active);
      found = found_by act (found_in touch v.found);
      done = done_in touch v.done;
      loads = loads_in touch v.loads;
    }
