-- Who can take a step, can take it so that it tells that it was one of those allowed.
use Rattle.std.proofs.Common.{◌≡◌, ℕ, ◌^◌, ◌<◌, Bool, List, Option, None, get_or, refl}
use Rattle.room_core.specs.Gate.{Gate, Held, Keyed}
use Rattle.room_rule.specs.Use.{Own, own, Meaning}
use Rattle.room_rule.specs.Steps.{CanStep, CanExit, CanTouch, StepMade, ExitMade, TouchMade}

module _ {X S V : Type 0} (M : Meaning X S V) (x : X) (who : ℕ) (v : V) (word : ℕ)
    (change : ℕ → ℕ) (then : Own S V → ℕ → ℕ → Own S V → Type 0) where
  pub step_made : (room turn : ℕ) (held : Option (Option S)) (fits : ℕ → Type 0)
      → CanStep M x who v word change room turn held fits then
      → CanStep M x who v word change room turn held fits (λ before old value after.
      then before old value after × StepMade M x who word room turn before old value after)
  step_made room turn held fits can s ins stands small =
      let a = can s ins stands small in (
        a.0,
        (
          a.1.0,
          a.1.1,
          (
            a.1.2,
            record {
              content = s;
              gate = Held room turn ins;
              stands = (ins, refl, stands);
              found = refl;
              allowed = a.1.1;
              held = refl;
            },
          ),
        ),
      )

  pub exit_made : (room turn : ℕ) (kept : List ℕ) → CanExit M x who v word change room turn kept then
      → CanExit M x who v word change room turn kept (λ before old value after.
      then before old value after × ExitMade M x who word room turn kept before old value after)
  exit_made room turn kept can s has shows small =
      let a = can s has shows small in (
        a.0,
        a.1,
        (
          a.2,
          record {
            content = s;
            gate = Keyed room turn who;
            stands = (refl, has, shows);
            found = refl;
            allowed = a.1;
            held = refl;
          },
        ),
      )

  pub touch_made : (fits : ℕ → Type 0) → CanTouch M x who v word change fits then
      → CanTouch M x who v word change fits (λ before old value after.
      then before old value after × TouchMade M x who word before old value after)
  touch_made fits can s gate stands small =
      let a = can s gate stands small in (
        a.0,
        (
          a.1.0,
          a.1.1,
          (
            a.1.2,
            record {
              content = s;
              gate = gate;
              stands = stands;
              found = refl;
              allowed = a.1.1;
              held = refl;
            },
          ),
        ),
      )
