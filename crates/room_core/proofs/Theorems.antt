-- The theorems, of every run in its order.
use Rattle.std.proofs.Common.{ℕ, ◌≤◌, List, sym, subst}
use Rattle.room_core.specs.declared.acts.Act.{Act}
use Rattle.room_core.specs.Runs.{World, run, start}
use Rattle.room_core.specs.Trace.{trace}
use Rattle.room_core.specs.Order.{moments, trace_of}
use Rattle.room_core.specs.Apart.{IsApart}
use Rattle.room_core.specs.ExitOnce.{IsOncePerOpening}
use Rattle.room_core.specs.Admission.{IsAdmission}
use Rattle.room_core.specs.Bypass.{IsPrompt}
use Rattle.room_core.proofs.Apart.{run_kept, start_good}
use Rattle.room_core.proofs.Whole.{run_lawful}
use Rattle.room_core.proofs.Prompt.{run_prompt}
use Rattle.room_core.proofs.Order.{trace_of-reverse}
use Rattle.room_core.proofs.Apartness.{apart_in_order}
use Rattle.room_core.proofs.Exits.{once_back, once_in_order}
use Rattle.room_core.proofs.Admitting.{admission_in_order}
use Rattle.room_core.proofs.Prompting.{prompt_in_order}

module _ (rooms callers : ℕ) (acts : List (ℕ × Act)) (few : rooms ≤ 7) where
  abbrev w : World
  w = run acts (start rooms callers)

  pub is_apart : IsApart (trace_of (moments rooms callers acts))
  is_apart =
      subst IsApart (sym (trace_of-reverse w.history))
      (apart_in_order (trace w.history)
      (run_kept acts (start rooms callers) (start_good rooms callers few)).apart)

  pub exits_once : IsOncePerOpening (trace_of (moments rooms callers acts))
  exits_once =
      subst IsOncePerOpening (sym (trace_of-reverse w.history))
      (once_in_order (trace w.history) (once_back w.history (run_lawful rooms callers acts few)))

  pub admits : IsAdmission (moments rooms callers acts)
  admits = admission_in_order w.history (run_lawful rooms callers acts few)

  pub is_prompt : IsPrompt rooms (moments rooms callers acts)
  is_prompt =
      prompt_in_order rooms w.history (run_lawful rooms callers acts few)
      (run_prompt rooms callers acts few)
