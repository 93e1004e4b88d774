-- A use that asks nothing of words, slots or views: rooms alone.
use Rattle.std.specs.Prelude.{◌≡◌, ℕ, Option, Some, None, refl, false}
use Rattle.std.proofs.Common.{arith}
use Rattle.room_rule.specs.Use.{Meaning}
use Rattle.room_rule.specs.Laws.{Laws}

no_slot : (k : ℕ) → ◌≡◌ {A = Option ℕ} None (Some k) → ⊥
no_slot k e = cc

module _ {X S V : Type 0} (view : V) where
  -- no words, no slots and no steps; each caller has this view
  abbrev pub plain : Meaning X S V
  plain = record {
    words = λ x. 0;
    start = λ x callers word. 0;
    slots = λ x. 0;
    starts = λ who. view;
    lawful = λ x s gate. Unit {0};
    may_step = λ x room s. ⊥;
    may_exit = λ x room s. ⊥;
    may_touch = λ x s. ⊥;
    is_touch = λ x word. false;
    may_enter = λ x v. Unit {0};
    may_leave = λ x v. Unit {0};
    rested = λ x words v. Unit {0};
    last = λ v. 0;
    keeps = λ v. None;
  }

  pub plain_laws : Laws plain
  plain_laws = record {
    starts = λ x callers s few wide each long wide_slots at_home all. tt;
    opens = λ x s turn room h. tt;
    enters = λ x s room turn ins who v h at may low. tt;
    steps = λ x s room turn ins who v word value after contents h there may. tt;
    leaves = λ x s room turn ins who v h may. tt;
    leaves_last = λ x s room turn ins who v h may alone. tt;
    exits = λ x s room turn who v word value after h there may. tt;
    passes = λ x s room turn who v h rest. tt;
    touches = λ x s gate who v word value after h there may. tt;
    last_turns = record {
      starts = λ c. refl;
      steps = λ x s room turn ins who v word value after contents h there may. absurd may;
      exits = λ x s room turn who v word value after h there may. absurd may;
      touches = λ x s gate who v word value after h there may. absurd may;
    };
    touch_words = record {
      touches = λ x s may. absurd may;
      steps = λ x room s is may. absurd may;
      exits = λ x room s is may. absurd may;
    };
    slots = record {
      out = λ x s gate k h below. absurd (omega arith);
      one = λ x s gate c d u v k h at there e f. absurd (no_slot k e);
      insiders = λ x s gate c v k h at e. absurd (no_slot k e);
      moves = λ x room s v at may. absurd may;
      leaves = λ x v may. refl;
    };
  }
