-- A fact for each answer of a call.
use Rattle.room_gate.specs.Shows.{Caller, Waiter, Insider, KeyHolder}
use Rattle.room_gate.specs.declared.draws.Drawn.{Drawn}
use Rattle.room_gate.specs.declared.draws.Drawn.TheVariants.{Waiting, Spent}
use Rattle.room_gate.specs.declared.polls.Polled.{Polled}
use Rattle.room_gate.specs.declared.polls.Polled.TheVariants.{Entered, NotYet}
use Rattle.room_gate.specs.declared.enters.Entered as enters
use Rattle.room_gate.specs.declared.enters.Entered.TheVariants as entered
use Rattle.room_gate.specs.declared.leaves.Left.{Left}
use Rattle.room_gate.specs.declared.leaves.Left.TheVariants.{Out, Last}

module _ {X S V : Type 0} where
  -- of a draw
  abbrev pub MatchDrawn : Drawn X V S → (Waiter V → Type 0) → (Caller V → Type 0) → Type 0
  MatchDrawn (Waiting w) IfWaiting IfSpent = IfWaiting w
  MatchDrawn (Spent p) IfWaiting IfSpent = IfSpent p

  -- of a poll
  abbrev pub MatchPolled : Polled X V S → (Insider S V → Type 0) → (Waiter V → Type 0) → Type 0
  MatchPolled (Entered i) IfIn IfOut = IfIn i
  MatchPolled (NotYet w) IfIn IfOut = IfOut w

  abbrev pub IfEntered : Polled X V S → (Insider S V → Type 0) → Type 0
  IfEntered (Entered i) P = P i
  IfEntered (NotYet w) P = Unit {0}

  abbrev pub IsEntered : Polled X V S → Type 0
  IsEntered (Entered i) = Unit {0}
  IsEntered (NotYet w) = ⊥

  -- of a departure
  abbrev pub MatchLeft : Left X V S → (Caller V → Type 0) → (KeyHolder V → Type 0) → Type 0
  MatchLeft (Out p) IfOut IfLast = IfOut p
  MatchLeft (Last k) IfOut IfLast = IfLast k

  -- of an entry by waiting
  abbrev pub MatchGoneIn : enters.Entered X V S → (Insider S V → Type 0) → (Caller V → Type 0) → Type 0
  MatchGoneIn (entered.Inside i) IfIn IfSpent = IfIn i
  MatchGoneIn (entered.Spent p) IfIn IfSpent = IfSpent p

  abbrev pub IfGoneIn : enters.Entered X V S → (Insider S V → Type 0) → Type 0
  IfGoneIn (entered.Inside i) P = P i
  IfGoneIn (entered.Spent p) P = Unit {0}
