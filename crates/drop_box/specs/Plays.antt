-- What each step of a drop box tells its caller.
use Rattle.std.specs.Prelude.{◌≡◌, ℕ, ◌+◌, ◌≤◌, ◌==◌, false}
use Rattle.room_rule.specs.Use.{Own}
use Rattle.drop_box.specs.declared.uses.Visit.{Visit}

module _ {S : Type 0} where
  -- it went through the turnstile, and keeps the slot if it found 0
  abbrev pub went_through : Own S Visit → ℕ → ℕ → Own S Visit → Type 0
  went_through before old new after =
      after.user ≡ record before.user { last = after.user.last; keeps = old == 0 }

  -- it keeps no slot any more
  abbrev pub brought_home : Own S Visit → ℕ → ℕ → Own S Visit → Type 0
  brought_home before old new after = after.user ≡ record before.user { keeps = false }

  -- nothing is new to it
  abbrev pub set_back : Own S Visit → ℕ → ℕ → Own S Visit → Type 0
  set_back before old new after = after.user ≡ before.user

  -- it rang once more, and the bell had been rung no less often than by itself
  abbrev pub rang : Own S Visit → ℕ → ℕ → Own S Visit → Type 0
  rang before old new after =
      (after.user ≡ record before.user { rings = before.user.rings + 1 })
      × (before.user.rings ≤ old)
