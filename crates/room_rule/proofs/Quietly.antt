-- The steps that are no act of the protocol leave what happened up to then.
use Rattle.std.proofs.Common.{ℕ}
use Rattle.room_rule.specs.Use.{Meaning}
use Rattle.room_rule.specs.Laws.{Laws}
use Rattle.room_rule.specs.Quietly.{StepsAreQuiet}
use Rattle.room_rule.proofs.Making.{begins, hires_quietly}
use Rattle.room_rule.proofs.Seats.{notes_quietly, learns_quietly}
use Rattle.room_rule.proofs.Looking.{looks_again}
use Rattle.room_rule.proofs.Closing.{keeper_has_come, takes_in, ends_with}

module _ {X S V : Type 0} (M : Meaning X S V) (m : ℕ) where
  pub steps_are_quiet : Laws M → StepsAreQuiet M m
  steps_are_quiet laws = record {
    begins = λ k user few_rooms few sized words. begins M m k laws few_rooms user few sized words;
    hires = λ k s r id v at is left. hires_quietly M m k s r id v at is left;
    notes = λ k s r id v at is. notes_quietly M m k s r id v at is;
    learns = λ k s r id other v w at there is note.
        learns_quietly M m k s r id other v w at there is note;
    looks = λ k slots id me is. looks_again M m k slots id me is;
    keeper_enters = λ k s r. keeper_has_come M m k s r;
    keeper_joins = λ k s r id other v w at there is its out.
        takes_in M m k s r id other v w at there is its out;
    ends = λ k id v words slots is many apart f. ends_with M m k laws id v words slots is many apart f;
  }
