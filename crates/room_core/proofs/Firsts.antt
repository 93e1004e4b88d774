-- Who is inside has looked at the active word since its draw.
use Rattle.std.proofs.Common.{◌≡◌, ℕ, zero, suc, ◌<◌, List, [], ◌∷◌, length, get_or, set, Option, Some, None, refl, sym, subst, arith}
use Rattle.room_core.specs.declared.acts.Act.{Act}
use Rattle.room_core.specs.declared.phases.Phase.{Phase}
use Rattle.room_core.specs.declared.phases.Phase.TheVariants.{Out, Looking, Glancing, Seizing, Counting, Admitting, Turning, Inside, Exiting, Peering, Scanning, Passing}
use Rattle.room_core.specs.Active.{turn_of, seen}
use Rattle.room_core.specs.Words.{Words}
use Rattle.room_core.specs.Machine.{Row, phase_of}
use Rattle.room_core.specs.Runs.{World, happens, run, start}
use Rattle.room_core.proofs.Lists.{each_set}
use Rattle.room_core.proofs.Invariant.{phase}
use Rattle.room_core.proofs.Apart.{outs}
use Rattle.room_core.proofs.Went.{by_happens_is, Went, drawn, found, missed, saw_idle, saw_busy, won, lost, counted_wait, opened, opened_in, entered, left, left_last, exited, chose, ended, went_on, scanned, passed, rested}

-- the first turn that was seen is there
abbrev pub IsSeen : Option ℕ → Type 0
IsSeen first = (turn : ℕ) × (first ≡ Some turn)

-- who opens a room for its own ticket has looked, and so has who is inside
abbrev pub HasLooked : Phase → Type 0
HasLooked (Seizing room ticket first idle) = IsSeen first
HasLooked (Counting room ticket first turn) = 0 < ticket → IsSeen first
HasLooked (Admitting room ticket first turn to) = 0 < ticket → IsSeen first
HasLooked (Inside room ticket first turn to) = IsSeen first
HasLooked _ = Unit {0}

now_seen : (first : Option ℕ) (word : ℕ) → IsSeen (seen first word)
now_seen None word = (turn_of word, refl)
now_seen (Some turn) word = (turn, refl)

looked_went : (c : ℕ) (s : Words) (p : Phase) (act : Act) (row : Row) → Went c s p act row
    → HasLooked p → HasLooked row.0
looked_went c s p act row (saw_idle room ticket first z) k = now_seen first s.active
looked_went c s p act row (won room ticket first) k = λ _. k
looked_went c s p act row (counted_wait room ticket first turn) k = k
looked_went c s p act row (opened_in room ticket first turn to) k = k (omega arith)
looked_went c s p act row (entered room ticket first to) k = now_seen first s.active
looked_went c s p act row (passed turn k') k = λ low. absurd (omega arith)
looked_went c s p act row went k = tt

abbrev Looked : World → Type 0
Looked w = (d : ℕ) → HasLooked (phase w.state.phases d)

looked_kept : (w : World) (c : ℕ) (act : Act) → Looked w → Looked (happens w (c, act))
looked_kept w c act k = by_happens_is w c act Looked k (λ h row e went.
    each_set (λ _ p. HasLooked p) w.state.phases c row.0 Out h
    (looked_went c w.state.words (phase w.state.phases c) act row went (k c)) (λ d _. k d))

looked_run : (acts : List (ℕ × Act)) (w : World) → Looked w → Looked (run acts w)
looked_run [] w k = k
looked_run (a ∷ acts) w k = looked_run acts (happens w a) (looked_kept w a.0 a.1 k)

pub inside_looked : (rooms callers : ℕ) (acts : List (ℕ × Act)) (c room ticket turn to : ℕ)
    (first : Option ℕ)
    → phase_of (run acts (start rooms callers)).state c ≡ Inside room ticket first turn to
    → IsSeen first
inside_looked rooms callers acts c room ticket turn to first e =
    subst HasLooked e
    (looked_run acts (start rooms callers)
    (λ d. subst HasLooked (sym (outs callers d)) tt) c)
