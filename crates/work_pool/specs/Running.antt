-- What the parts of a drive leave, one after another.
use Rattle.std.specs.Prelude.{◌≡◌, ℕ, ◌+◌, ◌-◌, ◌*◌, ◌^◌, ◌<◌, ◌≤◌, min, List, [], ◌∷◌, ◌++◌, length, All, Option, Some, None, ⊤}
use Rattle.room_gate.specs.Shows.{Caller}
use Rattle.bay_rule.specs.declared.bay_use.BayUse.{BayUse}
use Rattle.bay_rule.specs.declared.views.BayView.{BayView}
use Rattle.bay_rule.specs.Leaving.{first_of}
use Rattle.bay_store.specs.Sharing.{holding}
use Rattle.bay_core.specs.declared.numbers.TheConstants.{MOST_ITEMS}
use Rattle.bay_core.specs.Times.{times}
use Rattle.work_pool.specs.Shows.{Worker}
use Rattle.work_pool.specs.Standing.{Standing, Handles, Keeps, Lacks}
use Rattle.work_pool.specs.Gaining.{KnowsQuiet}
use Rattle.work_pool.specs.Deeds.{tried, offered, stored, put_by, gained, handled}
use Rattle.work_pool.specs.Drives.{MayOffer, MayFollow, Went, Loud}
use Rattle.work_pool.specs.declared.pools.Way.{Way}
use Rattle.work_pool.specs.declared.puts.Put.{Put}
use Rattle.work_pool.specs.declared.puts.Put.TheVariants as put
use Rattle.work_pool.specs.declared.deeds.Deed.{Deed}
use Rattle.work_pool.specs.declared.drives.Drive.{Drive}
use Rattle.work_pool.specs.declared.steps.Did.{Did}
use Rattle.work_pool.specs.declared.steps.Did.TheVariants.{Handled, Wanting, Quiet, Spent}

-- each deed may stand after these ones and those before it, and before those after it
abbrev pub EachFollows : (List Deed → Deed → List Deed → Type 0) → List Deed → List Deed → Type 0
EachFollows May past [] = ⊤
EachFollows May past (d ∷ run) = May past d run × EachFollows May (past ++ d ∷ []) run

-- what a run leaves, where the work may be of no more use
pub record Runs (x : BayUse) (way : Way) (leads : ℕ → ℕ → Type 0) (before now : Worker) (was is : Standing)
    (run : List Deed) : Type 0 where
  pub went : Went x before.caller now.caller run
  -- no draw stored more items than a handful has
  pub few : MOST_ITEMS * before.caller.draws + length (stored run) ≤ MOST_ITEMS * now.caller.draws
  pub follows : EachFollows (MayFollow way leads now.caller was) [] run
  pub given : is.given ≡ was.given ++ offered run
  pub done : is.done ≡ was.done ++ handled run
  pub worker : now.worker ≡ before.worker

-- the worker asked the gate before each try of a run, and so many questions more
abbrev pub Asks : Worker → Worker → List Deed → ℕ → Type 0
Asks before now run more =
    now.asked ≡ min (before.asked + length (tried run) + more) (2 ^ 64 - 1)

-- what is still to be offered and handled after a run
pub record Stock (leads : ℕ → ℕ → Type 0) (was is : Standing) (run : List Deed) : Type 0 where
  pub to_give : All (MayOffer leads was run) is.to_give
  pub often : (n : ℕ) → times n (handled run) + times n is.kept_items
      ≡ times n was.kept_items + times n (gained run)
  -- what was to be given at the start is offered first
  pub first : (more : List ℕ) × (offered run ++ is.to_give ≡ was.to_give ++ more)
  pub room : length is.to_give ≤ is.spare

-- a run, after which more may follow
pub record Goes (x : BayUse) (way : Way) (leads : ℕ → ℕ → Type 0) (before now : Worker) (was is : Standing)
    (run : List Deed) : Type 0 where
  pub runs : Runs x way leads before now was is run
  pub stock : Stock leads was is run
  pub loud : Loud before.caller now.caller
  pub asks : Asks before now run 0

-- the numbers of offers after a run
pub record Tallies (drive then : Drive) (run : List Deed) : Type 0 where
  pub shared : then.shared ≡ drive.shared + length (stored run)
  pub kept : then.kept ≡ min (drive.kept + length (put_by run)) (2 ^ 64 - 1)
  pub quiet : then.quiet ≡ drive.quiet

-- what becomes of an item after it was offered, by the pool's answer
abbrev pub PutsBy : Put → Standing → Standing → Drive → Drive → Type 0
PutsBy (put.Shared r) was is drive then =
    (is ≡ was) × (then ≡ record drive { shared = drive.shared + 1 })
PutsBy (put.Full item) was is drive then =
    Keeps item was is × (then ≡ record drive { kept = min (drive.kept + 1) (2 ^ 64 - 1) })
PutsBy (put.Spent item) was is drive then =
    Keeps item was is × (then ≡ record drive { kept = min (drive.kept + 1) (2 ^ 64 - 1) })

-- the work gave these items, the first of those that were to be given
pub record GivesSome (items : List ℕ) (before now : Standing) : Type 0 where
  pub first : before.to_give ≡ items ++ now.to_give
  pub same : now ≡ record before { given = before.given ++ items; to_give = now.to_give }

-- it keeps these items more
pub record KeepsSome (items : List ℕ) (before now : Standing) : Type 0 where
  pub kept : (n : ℕ) → times n now.kept_items ≡ times n before.kept_items + times n items
  pub same : now ≡ record before { kept_items = now.kept_items; spare = before.spare - length items }

-- one offer of one item
pub record OffersOne (x : BayUse) (way : Way) (leads : ℕ → ℕ → Type 0) (before now : Worker) (was is : Standing)
    (drive then : Drive) : Type 0 where
  pub deed : Deed
  pub goes : Goes x way leads before now was is (deed ∷ [])
  pub held : now.caller.user.held ≡ before.caller.user.held
  pub fewer : length was.to_give ≡ length is.to_give + 1
  pub tallies : Tallies drive then (deed ∷ [])

-- one offer, of one item or of several
pub record OffersMore (x : BayUse) (way : Way) (leads : ℕ → ℕ → Type 0) (before now : Worker) (was is : Standing)
    (drive then : Drive) : Type 0 where
  pub run : List Deed
  pub goes : Goes x way leads before now was is run
  pub held : now.caller.user.held ≡ before.caller.user.held
  pub fewer : length is.to_give < length was.to_give
  pub tallies : Tallies drive then run

-- the next offer, or none where there was nothing to give
abbrev pub OffersNext : BayUse → Way → (ℕ → ℕ → Type 0) → Worker → Worker → Standing → Standing → Drive
    → Option Drive → Type 0
OffersNext x way leads before now was is drive (Some then) =
    OffersMore x way leads before now was is drive then
OffersNext x way leads before now was is drive None =
    (now ≡ before) × (is ≡ was) × (was.to_give ≡ [])

-- all offers, until nothing is to be given
pub record OffersAll (x : BayUse) (way : Way) (leads : ℕ → ℕ → Type 0) (before now : Worker) (was is : Standing)
    (drive then : Drive) : Type 0 where
  pub run : List Deed
  pub goes : Goes x way leads before now was is run
  pub none : is.to_give ≡ []
  pub held : now.caller.user.held ≡ before.caller.user.held
  pub idle : was.to_give ≡ [] → is ≡ was
  pub tallies : Tallies drive then run

-- one item that is had, with the share that its worker holds
abbrev pub HandlesOne : (ℕ → Type 0) → ℕ → Worker → Worker → Standing → Standing → Did → Type 0
HandlesOne leads item before now was is Handled = (now ≡ before) × Handles leads item was is
HandlesOne leads item before now was is (Wanting error) =
    (now ≡ record before { caller = holding before.caller 0 }) × Lacks was is
HandlesOne leads item before now was is _ = ⊥

-- a run without an offer
abbrev pub OffersNone : List Deed → Type 0
OffersNone run = (length (stored run) ≡ 0) × (length (put_by run) ≡ 0)

-- the worker handled the next item that was had or taken
pub record StepsOn (x : BayUse) (way : Way) (leads : ℕ → ℕ → Type 0) (before now : Worker) (was is : Standing)
    : Type 0 where
  pub run : List Deed
  pub goes : Goes x way leads before now was is run
  pub held : now.caller.user.held ≡ 1
  pub silent : OffersNone run

-- it had the next item, and memory was wanting
pub record StepsWanting (x : BayUse) (way : Way) (leads : ℕ → ℕ → Type 0) (before now : Worker)
    (was is : Standing) : Type 0 where
  pub run : List Deed
  pub runs : Runs x way leads before now was is run
  pub loud : Loud before.caller now.caller
  pub asks : Asks before now run 0
  pub held : now.caller.user.held ≡ 0
  pub silent : OffersNone run

-- how a worker that has nothing finds its bay: quiet, or its pass spent
abbrev pub FindsOut : BayUse → Did → Caller BayView → Caller BayView → Type 0
FindsOut x Quiet before now =
    (before.user.loads < now.user.loads) × (now.user.live ≡ 0)
    × (now.user.quiet_at ≡ first_of before.user.quiet_at (length now.user.seen))
    × KnowsQuiet x now
FindsOut x Spent before now = Loud before now × (now.draws ≡ now.limit)
FindsOut x _ before now = ⊥

-- the questions beyond those before the step's tries
abbrev pub more_asked : Did → ℕ
more_asked Spent = 1
more_asked _ = 0

-- it had no next item
pub record StepsOut (x : BayUse) (way : Way) (leads : ℕ → ℕ → Type 0) (before now : Worker) (was is : Standing)
    (did : Did) : Type 0 where
  pub run : List Deed
  pub runs : Runs x way leads before now was is run
  pub stock : Stock leads was is run
  pub asks : Asks before now run (more_asked did)
  pub none : was.kept_items ≡ []
  pub same : is ≡ was
  pub held : now.caller.user.held ≡ 0
  pub finds : FindsOut x did before.caller now.caller
  pub silent : OffersNone run

-- one step, by what it did
abbrev pub Steps : BayUse → Way → (ℕ → ℕ → Type 0) → Worker → Worker → Standing → Standing → Did → Type 0
Steps x way leads before now was is Handled = StepsOn x way leads before now was is
Steps x way leads before now was is (Wanting error) = StepsWanting x way leads before now was is
Steps x way leads before now was is did = StepsOut x way leads before now was is did
