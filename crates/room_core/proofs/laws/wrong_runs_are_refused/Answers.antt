use Rattle.std.proofs.Common.{◌≡◌, ℕ, ◌+◌, ◌<◌, ◌≤◌, List, [], ◌∷◌, ◌++◌, Option, Some, None, refl, sym, ap, ◌∙◌, arith}
use Rattle.std.specs.Prelude.{Contains}
use Rattle.room_core.specs.declared.items.Opening.{Opening}
use Rattle.room_core.specs.declared.words.Touch.{Touch}
use Rattle.room_core.specs.declared.words.Touch.TheVariants.{Load, Store}
use Rattle.room_core.specs.declared.words.Word.TheVariants.{Wait, Grant, Active}
use Rattle.room_core.specs.declared.items.Item.TheVariants.{Opened, Entered, Left, ExitBegun, ExitEnded}
use Rattle.room_core.specs.Choice.{Scan, ends_between, goes_on, passes_on, rests}
use Rattle.room_core.specs.Wrong.{two_rooms, drew, stepped}
use Rattle.room_core.proofs.laws.wrong_runs_are_refused.Goals as goal

first_looked : {rooms r k q w : ℕ} {later : List Touch} → Scan rooms r k (Load (Wait q) w ∷ later)
    → q ≡ k
first_looked (ends_between k w) = refl
first_looked (goes_on k w g later le ne s) = refl
first_looked (passes_on k w g later lt s) = refl
first_looked (rests k w g later le e s) = refl

last_is : (o p : Opening) → Some o ≡ Some p → o ≡ p
last_is o p e = cc

pub returns : goal.returns
returns c = record {
  apart = λ a.
      let last = a.one_room two_rooms [] 0 0 refl refl in
      let room : ◌≡◌ {A = ℕ} 1 0 =
      ap (λ (z : Opening). z.room)
      (last_is (record { turn = 2; room = 1; from = 0; to = 1 }) last.0 last.1)
      ∙ last.2 in
      omega arith;
  exit_once = λ a.
      let once =
      a.each (record { turn = 1; room = 0; from = 0; to = 2 })
      (Entered 0 0 ∷ Entered 1 0 ∷ Left 0 ∷ ExitBegun 0 ∷ []) []
      (record { past = []; stands = refl; one = refl; whole = tt }) in
      let begun = once.begun (Entered 0 0 ∷ Entered 1 0 ∷ Left 0 ∷ []) [] 0 refl in
      let count : ◌≡◌ {A = ℕ} 1 2 = begun.1.3 in
      omega arith;
  admission = λ a.
      let entered =
      a.entered 0 0
      (record {
        before = drew 0 0 0 ∷ [];
        moment = stepped 0 (Load Active 9) (Some (Entered 0 0));
        after = [];
        one = [];
        two = [];
        stands = refl;
        gained = refl;
      }) in
      let none : None ≡ Some entered.3.opening = entered.3.is_last in
      cc;
  cyclic = λ a.
      let e : ◌≡◌ {A = ℕ} 0 1 =
      first_looked
      (a.scans [] [] (stepped 0 (Load (Wait 0) 1) (Some (ExitEnded 0))) 0 refl refl) in
      omega arith;
  prompt = λ a.
      let o : Opening = record { turn = 7; room = 0; from = 0; to = 1 } in
      let late = a.each 0 1 5 o
      (record {
        before = [];
        draw = drew 0 0 0;
        between = [];
        look = stepped 0 (Load Active 40) None;
        after = stepped 1 (Store (Grant 0) 1) (Some (Opened 7 0 0 1)) ∷ [];
        word = 40;
        stands = refl;
        draws = refl;
        number = refl;
        same = refl;
        loads = refl;
        turn_is = refl;
        first = refl;
      })
      (0, omega arith, refl) (record { of_room = refl; above = omega arith; up_to = omega arith })
      in
      let order : ◌≤◌ 7 6 = late.1 in
      omega arith;
}
