-- Every run chooses the next room in the cyclic order.
use Rattle.std.proofs.Common.{ℕ, ◌≤◌, List, [], ◌∷◌, reverse, sym}
use Rattle.room_core.specs.declared.acts.Act.{Act}
use Rattle.room_core.specs.Runs.{World, happens, run, start}
use Rattle.room_core.specs.Choice.{IsCyclic}
use Rattle.room_core.proofs.Apart.{Good, happens_kept, start_good}
use Rattle.room_core.proofs.Whole.{More, more_kept, start_more}
use Rattle.room_core.proofs.Order.{nil_parts}
use Rattle.room_core.proofs.Scans.{Scans, scans_kept, scans_in_order}
use Rattle.room_core.proofs.Choices.{Awaits, awaits_kept, ChosenBack, chosen_kept, waits_in_order, grants_in_order, follows_in_order}

record Chooses (rooms : ℕ) (w : World) : Type 0 where
  scans : Scans rooms w.history w.state.phases
  awaits : Awaits w.state.words w.state.phases w.history
  chosen : ChosenBack w.history

chooses_run : (rooms : ℕ) (acts : List (ℕ × Act)) (w : World) → Good w → More rooms w
    → Chooses rooms w → Chooses rooms (run acts w)
chooses_run rooms [] w g k x = x
chooses_run rooms (a ∷ acts) w g k x = chooses_run rooms acts (happens w a) (happens_kept w a.0 a.1 g) (more_kept rooms w a.0 a.1 g k) (record {
  scans = scans_kept rooms w a.0 a.1 g k.due.rooms x.scans;
  awaits = awaits_kept w a.0 a.1 g x.awaits;
  chosen = chosen_kept w a.0 a.1 g k.marks k.tie x.awaits x.chosen;
})

start_chooses : (rooms callers : ℕ) → Chooses rooms (start rooms callers)
start_chooses rooms callers = record {
  scans =
      λ later before m r split. absurd (let z = nil_parts later (m ∷ before) (sym split) in cc z.1);
  awaits =
      λ later before m word split.
      absurd (let z = nil_parts later (m ∷ before) (sym split) in cc z.1);
  chosen = tt;
}

pub run_cyclic : (rooms callers : ℕ) (acts : List (ℕ × Act)) → rooms ≤ 7
    → IsCyclic rooms (reverse (run acts (start rooms callers)).history)
run_cyclic rooms callers acts few =
    let w : World = run acts (start rooms callers) in
    let x : Chooses rooms w =
    chooses_run rooms acts (start rooms callers) (start_good rooms callers few)
    (start_more rooms callers) (start_chooses rooms callers) in
    record {
      scans = scans_in_order rooms w.history w.state.phases x.scans;
      waits = waits_in_order w.history x.chosen;
      grants = grants_in_order w.history x.chosen;
      follows = follows_in_order w.history x.chosen;
    }
